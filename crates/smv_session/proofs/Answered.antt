-- What follows from the reply to a command.
use Rattle.std.proofs.Common.{◌≡◌, ◌≢◌, ◌⊎◌, ◌∙◌, inl, inr, ℕ, ◌<◌, List, [], ◌∷◌, length, Option, Some, None, refl, sym, ap, subst, arith, false}
use Rattle.std.specs.Global.{Vec}
use Rattle.std.specs.Prelude.{All}
use Rattle.std.proofs.lemmas.Bool.{false≢true}
use Rattle.std.proofs.lemmas.List.Elements.{All-nil, All-cons}
use Rattle.bdd_nodes.specs.declared.refusal.Held.{Held}
use Rattle.command_words.specs.Words as words
use Rattle.command_words.specs.Words.{Command, Source, File, Ring, Work, Job, Decide, Recheck, Delay, Replay, Strong, Print, Do}
use Rattle.command_replies.specs.Delayed.{Delayed, LeavesDelays}
use Rattle.kripke_model.specs.System.{System}
use Rattle.smv_outside.specs.Contents.{Contents}
use Rattle.smv_rings.specs.Rings.{ring_text}
use Rattle.smv_session.specs.Answers.{Answers, IsModelReply, IsTaken, Reads, Takes, Tells}
use Rattle.smv_session.specs.Jobs.{Does, NamesLeaves, Undecides}
use Rattle.smv_session.specs.Refuses.{Refuses}
use Rattle.smv_session.specs.OneAnswer.{OneAnswer}
use Rattle.smv_session.specs.Source.{HasModel, IsAccepted}
use Rattle.smv_texts.specs.Evidence.{IsOfLimit}
use Rattle.smv_texts.specs.Refusals.{Refusal, is_fault, refusal_line}
use Rattle.smv_texts.specs.Replies.{Reply, text_of}
use Rattle.smv_texts.specs.Report.{Finding}
use Rattle.smv_texts.specs.Statuses.{status_of}
use Rattle.smv_texts.specs.Texts.{usage_text}
use Rattle.smv_texts.specs.declared.ending.Ending.{Ending}
use Rattle.smv_texts.specs.declared.ending.Ending.TheVariants as endings
use Rattle.smv_texts.specs.declared.status.Status.TheVariants.{Undecided, ModelRefused, OutsideFault, Usage, Memory, ProofRefused}
use Rattle.spec_verdicts.specs.Checked.{EndsWith}
use Rattle.command_replies.specs.Answers.{Answer}
use Rattle.command_replies.specs.Rechecked.{EndsAnswers, LeavesUnanswered, Rechecked}
use Rattle.command_replies.specs.Strong.{LeavesStrong, StrongReply}
use Rattle.command_replies.specs.Replayed.{Replayed, ends_judged}
use Rattle.trace_check.specs.declared.judged.Judged.{Judged}
use Rattle.trace_check.specs.declared.judged.Judged.TheVariants as judgements

-- ---- endings and statuses

pub usage_ending : (e : Ending) → status_of e ≡ Usage → e ≡ endings.Usage
usage_ending endings.Clear is = cc
usage_ending endings.Failed is = cc
usage_ending (endings.Undecided held) is = cc
usage_ending endings.ModelRefused is = cc
usage_ending endings.ProofRefused is = cc
usage_ending endings.Usage is = refl

pub refused_ending : (e : Ending) → status_of e ≡ ModelRefused → e ≡ endings.ModelRefused
refused_ending endings.Clear is = cc
refused_ending endings.Failed is = cc
refused_ending (endings.Undecided held) is = cc
refused_ending endings.ModelRefused is = refl
refused_ending endings.ProofRefused is = cc
refused_ending endings.Usage is = cc

pub undecided_ending : (e : Ending) (held : Vec Held) → status_of e ≡ Undecided held → e ≡ endings.Undecided held
undecided_ending endings.Clear held is = cc
undecided_ending endings.Failed held is = cc
undecided_ending (endings.Undecided full) held is = let e : full ≡ held = cc in ap endings.Undecided e
undecided_ending endings.ModelRefused held is = cc
undecided_ending endings.ProofRefused held is = cc
undecided_ending endings.Usage held is = cc

pub proof_ending : (e : Ending) → status_of e ≡ ProofRefused → e ≡ endings.ProofRefused
proof_ending endings.Clear is = cc
proof_ending endings.Failed is = cc
proof_ending (endings.Undecided held) is = cc
proof_ending endings.ModelRefused is = cc
proof_ending endings.ProofRefused is = refl
proof_ending endings.Usage is = cc

pub no_fault_ending : (e : Ending) → status_of e ≢ OutsideFault
no_fault_ending endings.Clear is = cc
no_fault_ending endings.Failed is = cc
no_fault_ending (endings.Undecided held) is = cc
no_fault_ending endings.ModelRefused is = cc
no_fault_ending endings.ProofRefused is = cc
no_fault_ending endings.Usage is = cc

pub no_memory_ending : (e : Ending) → status_of e ≢ Memory
no_memory_ending endings.Clear is = cc
no_memory_ending endings.Failed is = cc
no_memory_ending (endings.Undecided held) is = cc
no_memory_ending endings.ModelRefused is = cc
no_memory_ending endings.ProofRefused is = cc
no_memory_ending endings.Usage is = cc

-- ---- what work ends with

-- what shows that something is unknown
record IsShown (m : System) (limit : ℕ) (held : Vec Held) : Type 0 where
  pub full : All (IsOfLimit m limit) held.items
  pub some : 0 < length held.items

-- the endings of work that is undecided or done
abbrev IsWorkEnding : System → ℕ → Ending → Type 0
IsWorkEnding m limit endings.Clear = Unit {0}
IsWorkEnding m limit endings.Failed = Unit {0}
IsWorkEnding m limit (endings.Undecided held) = IsShown m limit held
IsWorkEnding m limit endings.ModelRefused = ⊥
IsWorkEnding m limit endings.ProofRefused = Unit {0}
IsWorkEnding m limit endings.Usage = ⊥

one_held : (m : System) (limit : ℕ) (held : Vec Held) (full : Held) → held.items ≡ full ∷ [] → IsOfLimit m limit full → IsShown m limit held
one_held m limit held full one is = record {
  full = subst (All (IsOfLimit m limit)) (sym one) (All-cons (IsOfLimit m limit) full [] is (All-nil (IsOfLimit m limit)));
  some = let count = ap length one in omega (arith, count);
}

left_end : (m : System) (limit from to : ℕ) (r : Reply) → LeavesDelays m limit from to r → IsWorkEnding m limit r.ending
left_end m limit from to r u = subst (IsWorkEnding m limit) (sym u.ends) (one_held m limit u.held u.full u.one u.of_limit.0)

left_strong_end : (m : System) (limit : ℕ) (r : Reply) → LeavesStrong m limit r → IsWorkEnding m limit r.ending
left_strong_end m limit r u = subst (IsWorkEnding m limit) (sym u.ends) (one_held m limit u.held u.full u.one u.of_limit.0)

unanswered_end : (m : System) (limit : ℕ) (r : Reply) → LeavesUnanswered m limit r → IsWorkEnding m limit r.ending
unanswered_end m limit r u = subst (IsWorkEnding m limit) (sym u.ends) (one_held m limit u.held u.full u.one u.of_limit.0)

undecides_end : (job : Job) (m : System) (limit : ℕ) (r : Reply) → Undecides job m limit r → IsWorkEnding m limit r.ending
undecides_end (Decide proofs) m limit r u = subst (IsWorkEnding m limit) (sym u.ends) (one_held m limit u.held u.full u.one u.of_limit.0)
undecides_end (Recheck proofs) m limit r u = unanswered_end m limit r u
undecides_end (Delay from to) m limit r u = left_end m limit from to r u
undecides_end (Replay trace) m limit r u = unanswered_end m limit r u
undecides_end (Strong pairs) m limit r u = left_strong_end m limit r u

checked_end : (m : System) (limit : ℕ) (fs : List Finding) (e : Ending) → EndsWith m limit fs e → IsWorkEnding m limit e
checked_end m limit fs endings.Clear ends = tt
checked_end m limit fs endings.Failed ends = tt
checked_end m limit fs (endings.Undecided held) ends = record {
  full = λ i d within. (ends.0 i d within).0;
  some = ends.1;
}
checked_end m limit fs endings.ModelRefused ends = absurd ends
checked_end m limit fs endings.ProofRefused ends = absurd ends
checked_end m limit fs endings.Usage ends = absurd ends

answers_end : (m : System) (limit : ℕ) (found : List Answer) (e : Ending) → EndsAnswers m limit found e → IsWorkEnding m limit e
answers_end m limit found endings.Clear ends = tt
answers_end m limit found endings.Failed ends = tt
answers_end m limit found (endings.Undecided held) ends = record { full = ends.0; some = ends.1 }
answers_end m limit found endings.ModelRefused ends = absurd ends
answers_end m limit found endings.ProofRefused ends = absurd ends
answers_end m limit found endings.Usage ends = absurd ends

rechecked_end : (m : System) (limit : ℕ) (bytes : List ℕ) (r : Reply) → Rechecked m limit bytes r → IsWorkEnding m limit r.ending
rechecked_end m limit bytes r (inl refused) = subst (IsWorkEnding m limit) (sym refused.ends) tt
rechecked_end m limit bytes r (inr answered) = answers_end m limit answered.answers r.ending answered.ends

delayed_end : (m : System) (limit from to : ℕ) (r : Reply) → Delayed m limit from to r → IsWorkEnding m limit r.ending
delayed_end m limit from to r (inl tells) = subst (IsWorkEnding m limit) (sym tells.ends) tt
delayed_end m limit from to r (inr left) = left_end m limit from to r left

judged_end : (m : System) (limit : ℕ) (judged : Judged) → IsWorkEnding m limit (ends_judged judged)
judged_end m limit judgements.Shape = tt
judged_end m limit judgements.Initial = tt
judged_end m limit (judgements.Step n) = tt
judged_end m limit (judgements.Unfair k) = tt
judged_end m limit judgements.Property = tt
judged_end m limit judgements.Accepted = tt

replayed_end : (m : System) (limit : ℕ) (bytes : List ℕ) (r : Reply) → Replayed m limit bytes r → IsWorkEnding m limit r.ending
replayed_end m limit bytes r (inl refused) = subst (IsWorkEnding m limit) (sym refused.ends) tt
replayed_end m limit bytes r (inr (inl found)) = subst (IsWorkEnding m limit) (sym found.ends) (judged_end m limit found.judged)
replayed_end m limit bytes r (inr (inr left)) =
    subst (IsWorkEnding m limit) (sym left.ends) (one_held m limit left.held left.full left.one left.of_limit.0)

strong_end : (m : System) (limit : ℕ) (pairs : List (ℕ × ℕ)) (r : Reply) → StrongReply m limit pairs r → IsWorkEnding m limit r.ending
strong_end m limit pairs r (inl path) = subst (IsWorkEnding m limit) (sym path.ends) tt
strong_end m limit pairs r (inr (inl none)) = subst (IsWorkEnding m limit) (sym none.ends) tt
strong_end m limit pairs r (inr (inr left)) = left_strong_end m limit r left

does_end : (job : Job) (m : System) (limit : ℕ) (second : Option (List ℕ)) (r : Reply) → Does job m limit second r → IsWorkEnding m limit r.ending
does_end (Decide proofs) m limit second r does = checked_end m limit does.findings r.ending does.ends
does_end (Recheck proofs) m limit None r does = absurd does
does_end (Recheck proofs) m limit (Some bytes) r does = rechecked_end m limit bytes r does
does_end (Delay from to) m limit second r does = delayed_end m limit from to r does
does_end (Replay trace) m limit None r does = absurd does
does_end (Replay trace) m limit (Some bytes) r does = replayed_end m limit bytes r does
does_end (Strong pairs) m limit second r does = strong_end m limit pairs r does

work_end : (w : Work) (contents : Option Contents) (m : System) (r : Reply) → Takes w contents m r → IsWorkEnding m w.limit r.ending
work_end w contents m r (inl undecided) = undecides_end w.job m w.limit r undecided
work_end w contents m r (inr done) = does_end w.job m w.limit done.second r done.does

not_usage : (w : Work) (contents : Option Contents) (bytes : List ℕ) (r : Reply) → IsModelReply w contents bytes r → r.ending ≢ endings.Usage
not_usage w contents bytes r (inl line) is = let refused = line.ends in cc
not_usage w contents bytes r (inr taken) is = subst (IsWorkEnding taken.model w.limit) is (work_end w contents taken.model r taken.takes)

-- what is taken is not refused
pub not_refused : (w : Work) (contents : Option Contents) (bytes : List ℕ) (r : Reply) → IsTaken w contents bytes r → r.ending ≢ endings.ModelRefused
not_refused w contents bytes r taken is = subst (IsWorkEnding taken.model w.limit) is (work_end w contents taken.model r taken.takes)

-- ---- the reply to a command

pub usage_only : (command : Command) (contents : Option Contents) (r : Reply) → Answers command contents r → r.ending ≡ endings.Usage → (command ≡ words.Usage) × (text_of r ≡ usage_text)
usage_only words.Usage contents r answers is = (refl, answers.0.text_is)
usage_only (Print n) contents r answers is = let other = answers.1 in cc
usage_only (Do w) contents r answers is = absurd (not_usage w contents answers.0 r answers.2 is)

pub usage_always : (command : Command) (contents : Option Contents) (r : Reply) → Answers command contents r → command ≡ words.Usage → r.ending ≡ endings.Usage
usage_always words.Usage contents r answers is = answers.1
usage_always (Print n) contents r answers is = cc
usage_always (Do w) contents r answers is = cc

-- what is refused
pub record IsRefusalOf (command : Command) (contents : Option Contents) (r : Reply) : Type 0 where
  pub work : Work
  pub bytes : List ℕ
  pub refusal : Refusal
  pub asked : command ≡ Do work
  pub there : Reads work.source contents bytes
  pub applies : Refuses work.job bytes refusal
  pub text : text_of r ≡ refusal_line refusal

pub refused_only : (command : Command) (contents : Option Contents) (r : Reply) → Answers command contents r → r.ending ≡ endings.ModelRefused → IsRefusalOf command contents r
refused_only words.Usage contents r answers is = let other = answers.1 in cc
refused_only (Print n) contents r answers is = let other = answers.1 in cc
refused_only (Do w) contents r answers is = elim answers.2 [
  | inl line ↦ record { work = w; bytes = answers.0; refusal = line.refusal; asked = refl; there = answers.1; applies = line.applies; text = line.text }
  | inr taken ↦ absurd (not_refused w contents answers.0 r taken is)
]

-- what is unknown
pub record IsUnknownOf (command : Command) (contents : Option Contents) (r : Reply) (held : Vec Held) : Type 0 where
  pub work : Work
  pub bytes : List ℕ
  pub model : System
  pub asked : command ≡ Do work
  pub there : Reads work.source contents bytes
  pub has : HasModel bytes model
  pub takes : Takes work contents model r
  pub full : All (IsOfLimit model work.limit) held.items
  pub some : 0 < length held.items

pub unknown_only : (command : Command) (contents : Option Contents) (r : Reply) (held : Vec Held) → Answers command contents r → r.ending ≡ endings.Undecided held → IsUnknownOf command contents r held
unknown_only words.Usage contents r held answers is = let other = answers.1 in cc
unknown_only (Print n) contents r held answers is = let other = answers.1 in cc
unknown_only (Do w) contents r held answers is = elim answers.2 [
  | inl line ↦ let other = line.ends in cc
  | inr taken ↦
      let shown = subst (IsWorkEnding taken.model w.limit) is (work_end w contents taken.model r taken.takes) in
      record { work = w; bytes = answers.0; model = taken.model; asked = refl; there = answers.1; has = taken.has; takes = taken.takes; full = shown.full; some = shown.some }
]

-- ---- the reply to a text that is told

same_text : (source : Source) (contents : Option Contents) (bytes found : List ℕ) → Reads source contents found → Tells source contents bytes → found ≡ bytes
same_text (File name) None bytes found reads tells = absurd tells
same_text (File name) (Some files) bytes found reads tells = cc
same_text (Ring n) contents bytes found reads tells = reads ∙ sym tells

-- the reply to this work over these bytes
pub answer_to : (command : Command) (contents : Option Contents) (r : Reply) (w : Work) (bytes : List ℕ) → Answers command contents r → command ≡ Do w → Tells w.source contents bytes
    → IsModelReply w contents bytes r
answer_to words.Usage contents r w bytes answers is tells = cc
answer_to (Print n) contents r w bytes answers is tells = cc
answer_to (Do v) contents r w bytes answers is tells =
    let same : v ≡ w = cc in
    let reply = subst (λ (x : Work). Reads x.source contents answers.0 × IsModelReply x contents answers.0 r) same (answers.1, answers.2) in
    subst (λ b. IsModelReply w contents b r) (same_text w.source contents bytes answers.0 reply.0 tells) reply.1

-- ---- one answer

module _ (one : OneAnswer) (w : Work) (contents : Option Contents) (bytes : List ℕ) (r : Reply) (answer : IsModelReply w contents bytes r) where
  -- what is read off the text is told
  pub refused_always : (refusal : Refusal) → Refuses w.job bytes refusal → is_fault refusal ≡ false → (r.ending ≡ endings.ModelRefused) × (text_of r ≡ refusal_line refusal)
  refused_always refusal applies other = elim answer [
    | inl line ↦ (line.ends, line.text ∙ ap refusal_line (one.refusal w.job bytes line.refusal refusal line.applies applies))
    | inr taken ↦ absurd (false≢true (sym other ∙ one.model_or_refusal w.job bytes taken.model refusal taken.has taken.names applies))
  ]

  -- a fault is told, or the model is left undecided
  pub faulty : (m : System) (refusal : Refusal) → HasModel bytes m → Refuses w.job bytes refusal → ((r.ending ≡ endings.ModelRefused) × (text_of r ≡ refusal_line refusal)) ⊎ Undecides w.job m w.limit r
  faulty m refusal has applies = elim answer [
    | inl line ↦ inl (line.ends, line.text ∙ ap refusal_line (one.refusal w.job bytes line.refusal refusal line.applies applies))
    | inr taken ↦ elim taken.takes [
      | inl undecided ↦ inr (subst (λ n. Undecides w.job n w.limit r) (one.model bytes taken.model m taken.has has) undecided)
      | inr done ↦ absurd (one.accepted_or_refusal w.job bytes taken.model refusal (record { has = taken.has; faultless = done.faultless }) taken.names applies)
    ]
  ]

  -- what is accepted is not refused
  pub never : (m : System) → IsAccepted bytes m → NamesLeaves w.job m → r.ending ≢ endings.ModelRefused
  never m accepted names is = elim answer [
    | inl line ↦ one.accepted_or_refusal w.job bytes m line.refusal accepted names line.applies
    | inr taken ↦ not_refused w contents bytes r taken is
  ]

  -- what has a model and is not refused is taken
  pub taken_of : (m : System) → HasModel bytes m → r.ending ≢ endings.ModelRefused → Takes w contents m r
  taken_of m has other = elim answer [
    | inl line ↦ absurd (other line.ends)
    | inr taken ↦ subst (λ n. Takes w contents n r) (one.model bytes taken.model m taken.has has) taken.takes
  ]

-- the ring's text is put
pub generated_of : (command : Command) (contents : Option Contents) (r : Reply) (n : ℕ) → Answers command contents r → command ≡ Print n → (r.ending ≡ endings.Clear) × (text_of r ≡ ring_text n)
generated_of words.Usage contents r n answers is = cc
generated_of (Print k) contents r n answers is = let same : k ≡ n = cc in (answers.1, answers.0.text_is ∙ ap ring_text same)
generated_of (Do w) contents r n answers is = cc
