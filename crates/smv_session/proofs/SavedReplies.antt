-- What the reply to a command saves.
use Rattle.std.proofs.Common.{◌≡◌, ◌⊎◌, inl, inr, ℕ, List, Option, Some, None, refl, sym, subst}
use Rattle.command_words.specs.Words as words
use Rattle.command_words.specs.Words.{Command, Work, Job, Decide, Recheck, Delay, Replay, Strong, Print, Do}
use Rattle.command_replies.specs.Delayed.{Delayed}
use Rattle.kripke_model.specs.System.{System}
use Rattle.command_replies.specs.Rechecked.{Rechecked}
use Rattle.smv_outside.specs.Contents.{AreTold, Contents, IsSaved}
use Rattle.smv_session.specs.Answers.{Answers, IsModelReply, Reads, Takes}
use Rattle.smv_session.specs.Foreseen.{FailsToSave}
use Rattle.smv_session.specs.Jobs.{Does, Keeps, KeepsOthers, Undecides}
use Rattle.smv_session.specs.Session.{KeepsOf, Leaves}
use Rattle.smv_session.specs.Source.{HasModel}
use Rattle.smv_texts.specs.Replies.{Reply}
use Rattle.smv_texts.specs.Report.{Finding}
use Rattle.smv_texts.specs.declared.ending.Ending.{Ending}
use Rattle.smv_texts.specs.declared.ending.Ending.TheVariants as endings
use Rattle.spec_verdicts.specs.Checked.{EndsWith, SavesProofs}
use Rattle.command_replies.specs.Strong.{StrongReply}
use Rattle.command_replies.specs.Replayed.{Replayed}

-- ---- by the job

-- what a job saves: bytes under the name of its proofs, if it saves anything
abbrev JobSaves : Job → Option (List ℕ × List ℕ) → Type 0
JobSaves (Decide None) saves = saves ≡ None
JobSaves (Decide (Some name)) saves = (saves ≡ None) ⊎ ((bytes : List ℕ) × (saves ≡ Some (name, bytes)))
JobSaves (Recheck proofs) saves = saves ≡ None
JobSaves (Delay from to) saves = saves ≡ None
JobSaves (Replay trace) saves = saves ≡ None
JobSaves (Strong pairs) saves = saves ≡ None

nothing : (job : Job) (saves : Option (List ℕ × List ℕ)) → saves ≡ None → JobSaves job saves
nothing (Decide None) saves is = is
nothing (Decide (Some name)) saves is = inl is
nothing (Recheck proofs) saves is = is
nothing (Delay from to) saves is = is
nothing (Replay trace) saves is = is
nothing (Strong pairs) saves is = is

of_proofs : (m : System) (proofs : Option (List ℕ)) (fs : List Finding) (saves : Option (List ℕ × List ℕ)) → SavesProofs m proofs fs saves → JobSaves (Decide proofs) saves
of_proofs m None fs saves is = is.0
of_proofs m (Some name) fs saves is = inr (is.0, is.1)

undecided_saves : (job : Job) (m : System) (limit : ℕ) (r : Reply) → Undecides job m limit r → JobSaves job r.saves
undecided_saves (Decide proofs) m limit r u = of_proofs m proofs _ r.saves u.saves
undecided_saves (Recheck proofs) m limit r u = u.saves
undecided_saves (Delay from to) m limit r u = u.saves
undecided_saves (Replay trace) m limit r u = u.saves
undecided_saves (Strong pairs) m limit r u = u.saves

rechecked_saves : (m : System) (limit : ℕ) (bytes : List ℕ) (r : Reply) → Rechecked m limit bytes r → r.saves ≡ None
rechecked_saves m limit bytes r (inl refused) = refused.saves
rechecked_saves m limit bytes r (inr answered) = answered.saves

delayed_saves : (m : System) (limit from to : ℕ) (r : Reply) → Delayed m limit from to r → r.saves ≡ None
delayed_saves m limit from to r (inl tells) = tells.saves
delayed_saves m limit from to r (inr left) = left.saves

replayed_saves : (m : System) (limit : ℕ) (bytes : List ℕ) (r : Reply) → Replayed m limit bytes r → r.saves ≡ None
replayed_saves m limit bytes r (inl refused) = refused.saves
replayed_saves m limit bytes r (inr (inl found)) = found.saves
replayed_saves m limit bytes r (inr (inr left)) = left.saves

strong_saves : (m : System) (limit : ℕ) (pairs : List (ℕ × ℕ)) (r : Reply) → StrongReply m limit pairs r → r.saves ≡ None
strong_saves m limit pairs r (inl path) = path.saves
strong_saves m limit pairs r (inr (inl none)) = none.saves
strong_saves m limit pairs r (inr (inr left)) = left.saves

done_saves : (job : Job) (m : System) (limit : ℕ) (second : Option (List ℕ)) (r : Reply) → Does job m limit second r → JobSaves job r.saves
done_saves (Decide proofs) m limit second r does = of_proofs m proofs does.findings r.saves does.saves
done_saves (Recheck proofs) m limit None r does = absurd does
done_saves (Recheck proofs) m limit (Some bytes) r does = rechecked_saves m limit bytes r does
done_saves (Delay from to) m limit second r does = delayed_saves m limit from to r does
done_saves (Replay trace) m limit None r does = absurd does
done_saves (Replay trace) m limit (Some bytes) r does = replayed_saves m limit bytes r does
done_saves (Strong pairs) m limit second r does = strong_saves m limit pairs r does

takes_saves : (w : Work) (contents : Option Contents) (m : System) (r : Reply) → Takes w contents m r → JobSaves w.job r.saves
takes_saves w contents m r (inl undecided) = undecided_saves w.job m w.limit r undecided
takes_saves w contents m r (inr done) = done_saves w.job m w.limit done.second r done.does

model_saves : (w : Work) (contents : Option Contents) (bytes : List ℕ) (r : Reply) → IsModelReply w contents bytes r → JobSaves w.job r.saves
model_saves w contents bytes r (inl line) = nothing w.job r.saves line.saves
model_saves w contents bytes r (inr taken) = takes_saves w contents taken.model r taken.takes

-- ---- what is kept

others_kept : (name bytes : List ℕ) (before after : Option Contents) → AreTold before after (λ files files_after. IsSaved files files_after name bytes) → KeepsOthers name before after
others_kept name bytes None after told = tt
others_kept name bytes (Some files) None told = absurd told
others_kept name bytes (Some files) (Some files_after) told = told.others

same_others : (name : List ℕ) (before after : Option Contents) → after ≡ before → KeepsOthers name before after
same_others name None after same = tt
same_others name (Some files) after same = subst (KeepsOthers name (Some files)) (sym same) (λ other differs. refl)

pub same_kept : (job : Job) (before after : Option Contents) → after ≡ before → Keeps job before after
same_kept (Decide None) before after same = same
same_kept (Decide (Some name)) before after same = same_others name before after same
same_kept (Recheck proofs) before after same = same
same_kept (Delay from to) before after same = same
same_kept (Replay trace) before after same = same
same_kept (Strong pairs) before after same = same

leaves_none : (saves : Option (List ℕ × List ℕ)) (before after : Option Contents) → saves ≡ None → Leaves saves before after → after ≡ before
leaves_none saves before after is leaves = subst (λ s. Leaves s before after) is leaves

job_keeps : (job : Job) (saves : Option (List ℕ × List ℕ)) (before after : Option Contents) → JobSaves job saves → Leaves saves before after → Keeps job before after
job_keeps (Decide None) saves before after is leaves = leaves_none saves before after is leaves
job_keeps (Decide (Some name)) saves before after (inl is) leaves = same_others name before after (leaves_none saves before after is leaves)
job_keeps (Decide (Some name)) saves before after (inr is) leaves = others_kept name is.0 before after (subst (λ s. Leaves s before after) is.1 leaves)
job_keeps (Recheck proofs) saves before after is leaves = leaves_none saves before after is leaves
job_keeps (Delay from to) saves before after is leaves = leaves_none saves before after is leaves
job_keeps (Replay trace) saves before after is leaves = leaves_none saves before after is leaves
job_keeps (Strong pairs) saves before after is leaves = leaves_none saves before after is leaves

-- nothing is known of the name where the save failed
job_fails : (job : Job) (saves : Option (List ℕ × List ℕ)) (before after : Option Contents) → JobSaves job saves → FailsToSave saves before after → Keeps job before after × ((name : List ℕ) × (job ≡ Decide (Some name)))
job_fails (Decide None) saves before after is fails = absurd (subst (λ s. FailsToSave s before after) is fails)
job_fails (Decide (Some name)) saves before after (inl is) fails = absurd (subst (λ s. FailsToSave s before after) is fails)
job_fails (Decide (Some name)) saves before after (inr is) fails = (subst (λ s. FailsToSave s before after) is.1 fails, (name, refl))
job_fails (Recheck proofs) saves before after is fails = absurd (subst (λ s. FailsToSave s before after) is fails)
job_fails (Delay from to) saves before after is fails = absurd (subst (λ s. FailsToSave s before after) is fails)
job_fails (Replay trace) saves before after is fails = absurd (subst (λ s. FailsToSave s before after) is fails)
job_fails (Strong pairs) saves before after is fails = absurd (subst (λ s. FailsToSave s before after) is fails)

-- ---- by the command

pub same_of : (command : Command) (before after : Option Contents) → after ≡ before → KeepsOf command before after
same_of words.Usage before after same = same
same_of (Print n) before after same = same
same_of (Do w) before after same = same_kept w.job before after same

pub reply_keeps : (command : Command) (contents after : Option Contents) (r : Reply) → Answers command contents r → Leaves r.saves contents after → KeepsOf command contents after
reply_keeps words.Usage contents after r answers leaves = leaves_none r.saves contents after answers.0.saves leaves
reply_keeps (Print n) contents after r answers leaves = leaves_none r.saves contents after answers.0.saves leaves
reply_keeps (Do w) contents after r answers leaves = job_keeps w.job r.saves contents after (model_saves w contents answers.0 r answers.2) leaves

-- the work of which proofs were to be saved
pub record IsSavedOf (command : Command) (contents after : Option Contents) : Type 0 where
  pub work : Work
  pub bytes : List ℕ
  pub name : List ℕ
  pub model : System
  pub asked : command ≡ Do work
  pub there : Reads work.source contents bytes
  pub job : work.job ≡ Decide (Some name)
  pub has : HasModel bytes model
  pub keeps : KeepsOf command contents after

refused_fails : (contents after : Option Contents) (saves : Option (List ℕ × List ℕ)) → saves ≡ None → FailsToSave saves contents after → ⊥
refused_fails contents after saves is fails = subst (λ s. FailsToSave s contents after) is fails

pub reply_fails : (command : Command) (contents after : Option Contents) (r : Reply) → Answers command contents r → FailsToSave r.saves contents after → IsSavedOf command contents after
reply_fails words.Usage contents after r answers fails = absurd (refused_fails contents after r.saves answers.0.saves fails)
reply_fails (Print n) contents after r answers fails = absurd (refused_fails contents after r.saves answers.0.saves fails)
reply_fails (Do w) contents after r answers fails = elim answers.2 [
  | inl line ↦ absurd (refused_fails contents after r.saves line.saves fails)
  | inr taken ↦
      let kept = job_fails w.job r.saves contents after (takes_saves w contents taken.model r taken.takes) fails in
      record { work = w; bytes = answers.0; name = kept.1.0; model = taken.model; asked = refl; there = answers.1; job = kept.1.1; has = taken.has; keeps = kept.0 }
]

-- ---- replies that save nothing

abbrev pub IsQuiet : Ending → Type 0
IsQuiet endings.ModelRefused = Unit {0}
IsQuiet endings.ProofRefused = Unit {0}
IsQuiet endings.Usage = Unit {0}
IsQuiet ending = ⊥

-- a report has another ending
loud : (m : System) (limit : ℕ) (fs : List Finding) (e : Ending) → EndsWith m limit fs e → IsQuiet e → ⊥
loud m limit fs endings.Clear ends quiet = quiet
loud m limit fs endings.Failed ends quiet = quiet
loud m limit fs (endings.Undecided held) ends quiet = quiet
loud m limit fs endings.ModelRefused ends quiet = ends
loud m limit fs endings.ProofRefused ends quiet = ends
loud m limit fs endings.Usage ends quiet = ends

undecided_quiet : (job : Job) (m : System) (limit : ℕ) (r : Reply) → Undecides job m limit r → IsQuiet r.ending → r.saves ≡ None
undecided_quiet (Decide proofs) m limit r u quiet = absurd (subst IsQuiet u.ends quiet)
undecided_quiet (Recheck proofs) m limit r u quiet = u.saves
undecided_quiet (Delay from to) m limit r u quiet = u.saves
undecided_quiet (Replay trace) m limit r u quiet = u.saves
undecided_quiet (Strong pairs) m limit r u quiet = u.saves

done_quiet : (job : Job) (m : System) (limit : ℕ) (second : Option (List ℕ)) (r : Reply) → Does job m limit second r → IsQuiet r.ending → r.saves ≡ None
done_quiet (Decide proofs) m limit second r does quiet = absurd (loud m limit does.findings r.ending does.ends quiet)
done_quiet (Recheck proofs) m limit None r does quiet = absurd does
done_quiet (Recheck proofs) m limit (Some bytes) r does quiet = rechecked_saves m limit bytes r does
done_quiet (Delay from to) m limit second r does quiet = delayed_saves m limit from to r does
done_quiet (Replay trace) m limit None r does quiet = absurd does
done_quiet (Replay trace) m limit (Some bytes) r does quiet = replayed_saves m limit bytes r does
done_quiet (Strong pairs) m limit second r does quiet = strong_saves m limit pairs r does

takes_quiet : (w : Work) (contents : Option Contents) (m : System) (r : Reply) → Takes w contents m r → IsQuiet r.ending → r.saves ≡ None
takes_quiet w contents m r (inl undecided) quiet = undecided_quiet w.job m w.limit r undecided quiet
takes_quiet w contents m r (inr done) quiet = done_quiet w.job m w.limit done.second r done.does quiet

pub quiet_saves : (command : Command) (contents : Option Contents) (r : Reply) → Answers command contents r → IsQuiet r.ending → r.saves ≡ None
quiet_saves words.Usage contents r answers quiet = answers.0.saves
quiet_saves (Print n) contents r answers quiet = answers.0.saves
quiet_saves (Do w) contents r answers quiet = elim answers.2 [
  | inl line ↦ line.saves
  | inr taken ↦ takes_quiet w contents taken.model r taken.takes quiet
]
