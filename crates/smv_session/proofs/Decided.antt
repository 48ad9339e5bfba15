-- What is promised of the jobs over a model.
use Rattle.std.proofs.Common.{◌≡◌, ◌⊎◌, ◌<◌, ◌≤◌, inl, inr, ℕ, List, [], ◌∷◌, length, replicate}
use Rattle.std.proofs.Common.{Option, Some, None, refl, sym, ap, subst, arith, ◌∙◌}
use Rattle.std.specs.Prelude.{All, IfSome, count_by}
use Rattle.std.proofs.lemmas.List.Elements.{All-head}
use Rattle.bdd_nodes.specs.declared.refusal.Held.{Held}
use Rattle.command_words.specs.Words.{Job, Work, Decide, Recheck, Delay, Replay, Strong}
use Rattle.command_replies.specs.Delayed.{Delayed, LeavesDelays}
use Rattle.kripke_model.specs.Faults.{IsFaultless}
use Rattle.kripke_model.specs.System.{System, Condition}
use Rattle.command_replies.proofs.Accepting.{all_accepted}
use Rattle.command_replies.specs.Answers.{Answer, AreAccepted}
use Rattle.command_replies.specs.Rechecked.{LeavesUnanswered}
use Rattle.command_replies.specs.ProofReport.{answers_report}
use Rattle.proof_text.specs.File.{File}
use Rattle.proof_text.specs.Refuses.{Refuses as RefusesText}
use Rattle.proof_text.specs.Spells.{Spells}
use Rattle.proof_text.specs.declared.refusals.TextRefusal.{TextRefusal}
use Rattle.smv_outside.specs.Contents.{Contents, bytes_under}
use Rattle.smv_session.specs.Answers.{Takes}
use Rattle.smv_session.specs.Commands.{AreFoundIn, DecidesAll, ExportsProofs, IsOfVerdicts}
use Rattle.smv_session.specs.Commands.{IsRechecked, RechecksProofs, ReportsVerdicts, ShowsStates}
use Rattle.smv_session.specs.Commands.{AcceptsProved, FindsDelays, IsDelayed, IsJudged}
use Rattle.smv_session.specs.Commands.{IsReplayed, ReplaysTraces, TellsOfProofs}
use Rattle.smv_session.specs.Commands.{FindsStrongPaths, IsStrongFound}
use Rattle.smv_session.specs.Jobs.{Does, IsLoaded, IsSecond, Undecides}
use Rattle.command_replies.specs.Strong.{LeavesStrong, StrongReply}
use Rattle.command_replies.specs.Replayed.{Replayed}
use Rattle.smv_session.specs.Session.{Leaves, Puts, RefusesModels, Session, Shows, TakesModels}
use Rattle.smv_session.proofs.Tried.{names_none}
use Rattle.smv_texts.specs.Replies.{Reply, text_of}
use Rattle.smv_texts.specs.Report.{Finding, Unknown, is_unknown, report}
use Rattle.smv_texts.specs.Statuses.{status_of}
use Rattle.smv_texts.specs.declared.ending.Ending.{Ending}
use Rattle.smv_texts.specs.declared.ending.Ending.TheVariants as endings
use Rattle.spec_verdicts.specs.Checked.{IsChecked, EndsWith, LeavesUnknown, SavesProofs, all_unknown}
use Rattle.smv_texts.specs.Evidence.{IsMet}
use Rattle.bit_encode.specs.Enough.{enough}
use Rattle.spec_verdicts.specs.Verdicts.{EachFinding, IsVerdict, ShowsState, ShowStates}

-- ---- check

-- evidence shows that the limit is below what is enough
met_held : (m : System) (limit : ℕ) (held : List Held) → All (IsMet m limit) held
    → 0 < length held → limit < enough m
met_held m limit [] met some = absurd (omega (arith, some))
met_held m limit (h ∷ held) met some = (All-head (IsMet m limit) h held met).1

below_of : (m : System) (limit : ℕ) (fs : List Finding) (e : Ending) → EndsWith m limit fs e
    → 0 < count_by is_unknown fs → limit < enough m
below_of m limit fs endings.Clear ends some = absurd (omega (arith, ends.0, some))
below_of m limit fs endings.Failed ends some = absurd (omega (arith, ends.0, some))
below_of m limit fs (endings.Undecided held) ends some = met_held m limit held.items ends.0 ends.1
below_of m limit fs endings.ModelRefused ends some = absurd ends
below_of m limit fs endings.ProofRefused ends some = absurd ends
below_of m limit fs endings.Usage ends some = absurd ends

-- where it is enough each specification has a verdict
enough_ends : (m : System) (limit : ℕ) (fs : List Finding) (e : Ending) → enough m ≤ limit
    → EndsWith m limit fs e → IsOfVerdicts (status_of e) × (count_by is_unknown fs ≡ 0)
enough_ends m limit fs endings.Clear le ends = (tt, ends.0)
enough_ends m limit fs endings.Failed le ends = (tt, ends.0)
enough_ends m limit fs (endings.Undecided held) le ends =
    let below = met_held m limit held.items ends.0 ends.1 in
    absurd (omega (arith, le, below))
enough_ends m limit fs endings.ModelRefused le ends = absurd ends
enough_ends m limit fs endings.ProofRefused le ends = absurd ends
enough_ends m limit fs endings.Usage le ends = absurd ends

-- of each specification nothing is known
each_unknown : (m : System) (limit : ℕ) (cs : List Condition) → EachFinding (λ f finding. IsVerdict m limit f finding.outcome) cs (replicate (length cs) (record { outcome = Unknown limit; left_out = None }))
each_unknown m limit [] = tt
each_unknown m limit (c ∷ cs) = (refl, each_unknown m limit cs)

none_shown : (m : System) (limit : ℕ) (cs : List Condition) → EachFinding (λ f finding. ShowsState m f finding.outcome) cs (replicate (length cs) (record { outcome = Unknown limit; left_out = None }))
none_shown m limit [] = tt
none_shown m limit (c ∷ cs) = (tt, none_shown m limit cs)

-- what a reply to the job tells
record Finds (m : System) (limit : ℕ) (proofs : Option (List ℕ)) (r : Reply) : Type 0 where
  pub findings : List Finding
  pub text : text_of r ≡ report m findings
  pub found : AreFoundIn m limit proofs findings
  pub states : ShowStates m findings
  pub saves : SavesProofs m proofs findings r.saves

told_of : (m : System) (proofs : Option (List ℕ)) (fs : List Finding) (saves : Option (List ℕ × List ℕ)) → SavesProofs m proofs fs saves → TellsOfProofs proofs fs
told_of m None fs saves is = is.1
told_of m (Some name) fs saves is = tt

undecided : (m : System) (limit : ℕ) (proofs : Option (List ℕ)) (r : Reply) → LeavesUnknown m limit proofs r → Finds m limit proofs r
undecided m limit proofs r u =
    let saves = u.saves in
    record {
      findings = all_unknown m limit;
      text = u.text;
      found = record { verdicts = each_unknown m limit m.specs; known = inr refl; told = told_of m proofs (all_unknown m limit) r.saves saves; below = λ some. u.of_limit.1 };
      states = none_shown m limit m.specs;
      saves = saves;
    }

module _ (w : Work) (contents : Option Contents) (m : System) (r : Reply) (proofs : Option (List ℕ)) (is : w.job ≡ Decide proofs) where
  finds : Takes w contents m r → Finds m w.limit proofs r
  finds (inl u) = undecided m w.limit proofs r (subst (λ job. Undecides job m w.limit r) is u)
  finds (inr done) =
      let does : IsChecked m w.limit proofs r = subst (λ job. Does job m w.limit done.second r) is done.does in
      record { findings = does.findings; text = does.text; found = record { verdicts = does.verdicts; known = inl done.faultless; told = told_of m proofs does.findings r.saves does.saves; below = below_of m w.limit does.findings r.ending does.ends }; states = does.states; saves = does.saves }

pub verdicts : (s : Session) → TakesModels s → ReportsVerdicts s
verdicts s takes = record {
  reports = λ quiet w bytes m proofs asks is has other.
      let taken = takes.takes quiet w bytes m asks has other in
      let found = finds w s.contents m taken.0 proofs is taken.1 in
      (found.findings, subst (Puts s) found.text taken.2.text, found.found);
}

pub states : (s : Session) → TakesModels s → ShowsStates s
states s takes = record {
  shows = λ quiet w bytes m proofs asks is has other.
      let taken = takes.takes quiet w bytes m asks has other in
      let found = finds w s.contents m taken.0 proofs is taken.1 in
      (found.findings, subst (Puts s) found.text taken.2.text, found.found, found.states);
}

pub exported : (s : Session) → TakesModels s → ExportsProofs s
exported s takes = record {
  exports = λ quiet w bytes m name asks is has other.
      let taken = takes.takes quiet w bytes m asks has other in
      let found = finds w s.contents m taken.0 (Some name) is taken.1 in (
        found.findings,
        subst (Puts s) found.text taken.2.text,
        found.found,
        (found.saves.0, found.saves.2, subst (λ saves. Leaves saves s.contents s.contents_after) found.saves.1 taken.2.files),
      );
}

-- ---- recheck

second_of : (s : Session) (m : System) (limit : ℕ) (proofs : List ℕ) (r : Reply) (second : Option (List ℕ)) → IsFaultless m → Shows s r → IsSecond (Recheck proofs) s.contents second → Does (Recheck proofs) m limit second r
    → IsRechecked s m limit proofs
second_of s m limit proofs r None faultless shows there does = absurd does
second_of s m limit proofs r (Some bytes) faultless shows there does = record { faultless = faultless; bytes = bytes; there = there; reply = r; rechecked = does; shows = shows }

pub rechecked : (s : Session) → TakesModels s → RechecksProofs s
rechecked s takes = record {
  rechecks = λ quiet w bytes m proofs asks is has other.
      let taken = takes.takes quiet w bytes m asks has other in
      elim taken.1 [
        | inl u ↦
            let left = subst (λ (job : Job). Undecides job m w.limit taken.0) is u in
            inl (taken.0, left, taken.2)
        | inr done ↦ inr (second_of s m w.limit proofs taken.0 done.second done.faultless taken.2
            (subst (λ (job : Job). IsSecond job s.contents done.second) is done.loaded) (subst (λ (job : Job). Does job m w.limit done.second taken.0) is done.does))
      ];
}

-- ---- where the limit is enough

all_of : (s : Session) (w : Work) (m : System) (r : Reply) (proofs : Option (List ℕ))
    → w.job ≡ Decide proofs → enough m ≤ w.limit → Takes w s.contents m r → Shows s r
    → IsOfVerdicts s.status
    × ((findings : List Finding) × Puts s (report m findings)
    × AreFoundIn m w.limit proofs findings × (count_by is_unknown findings ≡ 0))
unfolding finds
all_of s w m r proofs is le (inl u) shows =
    let left : LeavesUnknown m w.limit proofs r = subst (λ job. Undecides job m w.limit r) is u in
    let below = left.of_limit.1 in
    absurd (omega (arith, le, below))
all_of s w m r proofs is le (inr done) shows =
    let does : IsChecked m w.limit proofs r =
    subst (λ job. Does job m w.limit done.second r) is done.does in
    let found = finds w s.contents m r proofs is (inr done) in
    let ends = enough_ends m w.limit does.findings r.ending le does.ends in (
      subst IsOfVerdicts (sym shows.status) ends.0,
      (does.findings, subst (Puts s) does.text shows.text, found.found, ends.1),
    )

pub decides_all : (s : Session) → RefusesModels s → TakesModels s → DecidesAll s
decides_all s refuses takes = record {
  decides = λ quiet w bytes m proofs asks is accepted le.
      let other = refuses.never quiet w bytes m asks accepted (names_none w.job (Decide proofs) m is refl) in
      let taken = takes.takes quiet w bytes m asks accepted.has other in
      all_of s w m taken.0 proofs is le taken.1 taken.2;
}

-- what was put for a proof file of this text
AcceptsText : Session → System → ℕ → List ℕ → Type 0
AcceptsText s m limit proofs = (text : List ℕ) × IfSome s.contents (λ files. bytes_under files proofs ≡ Some text)
    × (((refusal : TextRefusal) × RefusesText m text refusal)
    ⊎ ((file : File) × Spells m file text × ((answers : List Answer)
    × Puts s (answers_report file.blocks answers) × AreAccepted m limit file.order file.blocks answers)))

text_accepted : (s : Session) (m : System) (limit : ℕ) (proofs : List ℕ) (r : Reply) (second : Option (List ℕ)) → Shows s r → IsSecond (Recheck proofs) s.contents second → Does (Recheck proofs) m limit second r
    → AcceptsText s m limit proofs
unfolding AcceptsText
text_accepted s m limit proofs r None shows there does = absurd does
text_accepted s m limit proofs r (Some text) shows there (inl refused) = (text, there, inl (refused.refusal, refused.applies))
text_accepted s m limit proofs r (Some text) shows there (inr a) =
    (text, there, inr (a.file, a.spelled, (a.answers, subst (Puts s) a.text shows.text, all_accepted m limit a.file.order a.file.blocks a.answers a.answered)))

accepted_of : (s : Session) (w : Work) (m : System) (r : Reply) (proofs : List ℕ)
    → w.job ≡ Recheck proofs → enough m ≤ w.limit → Takes w s.contents m r → Shows s r
    → AcceptsText s m w.limit proofs
accepted_of s w m r proofs is le (inl u) shows =
    let left : LeavesUnanswered m w.limit r = subst (λ (job : Job). Undecides job m w.limit r) is u in
    let below = left.of_limit.1 in
    absurd (omega (arith, le, below))
accepted_of s w m r proofs is le (inr done) shows =
    text_accepted s m w.limit proofs r done.second shows
    (subst (λ (job : Job). IsSecond job s.contents done.second) is done.loaded)
    (subst (λ (job : Job). Does job m w.limit done.second r) is done.does)

pub accepts_proved : (s : Session) → RefusesModels s → TakesModels s → AcceptsProved s
unfolding AcceptsText
accepts_proved s refuses takes = record {
  accepts = λ quiet w bytes m proofs asks is accepted le.
      let other = refuses.never quiet w bytes m asks accepted (names_none w.job (Recheck proofs) m is refl) in
      let taken = takes.takes quiet w bytes m asks accepted.has other in
      accepted_of s w m taken.0 proofs is le taken.1 taken.2;
}

-- ---- delay

delayed_of : (s : Session) (m : System) (limit from to : ℕ) (r : Reply) → IsFaultless m → Shows s r
    → Delayed m limit from to r
    → ((r : Reply) × LeavesDelays m limit from to r × Shows s r) ⊎ IsDelayed s m from to
delayed_of s m limit from to r faultless shows (inl tells) = inr (record {
  faultless = faultless;
  shortest = tells.shortest;
  longest = tells.longest;
  are = tells.are;
  status = shows.status ∙ ap status_of tells.ends;
  puts = subst (Puts s) tells.text shows.text;
})
delayed_of s m limit from to r faultless shows (inr left) = inl (r, left, shows)

delays_of : (s : Session) (w : Work) (m : System) (from to : ℕ) (r : Reply)
    → w.job ≡ Delay from to → Takes w s.contents m r → Shows s r
    → ((r : Reply) × LeavesDelays m w.limit from to r × Shows s r) ⊎ IsDelayed s m from to
delays_of s w m from to r is (inl u) shows =
    inl (r, subst (λ (job : Job). Undecides job m w.limit r) is u, shows)
delays_of s w m from to r is (inr done) shows =
    delayed_of s m w.limit from to r done.faultless shows
    (subst (λ (job : Job). Does job m w.limit done.second r) is done.does)

pub finds_delays : (s : Session) → RefusesModels s → TakesModels s → FindsDelays s
finds_delays s refuses takes = record {
  finds = λ quiet w bytes m from to asks is has other.
      let taken = takes.takes quiet w bytes m asks has other in
      delays_of s w m from to taken.0 is taken.1 taken.2;
  always = λ quiet w bytes m from to asks is accepted names le.
      let other = refuses.never quiet w bytes m asks accepted names in
      let taken = takes.takes quiet w bytes m asks accepted.has other in
      elim (delays_of s w m from to taken.0 is taken.1 taken.2) [
        | inl left ↦ (let below = left.1.of_limit.1 in absurd (omega (arith, le, below)))
        | inr told ↦ told
      ];
}

-- ---- replay

replayed_of : (s : Session) (m : System) (limit : ℕ) (trace : List ℕ) (r : Reply)
    (second : Option (List ℕ)) → IsFaultless m → Shows s r → IsLoaded trace s.contents second
    → Does (Replay trace) m limit second r → IsReplayed s m limit trace
replayed_of s m limit trace r None faultless shows there does = absurd does
replayed_of s m limit trace r (Some bytes) faultless shows there does = record {
  faultless = faultless;
  bytes = bytes;
  there = there;
  reply = r;
  replayed = does;
  shows = shows;
}

traces_of : (s : Session) (w : Work) (m : System) (trace : List ℕ) (r : Reply)
    → w.job ≡ Replay trace → Takes w s.contents m r → Shows s r
    → ((r : Reply) × LeavesUnanswered m w.limit r × Shows s r) ⊎ IsReplayed s m w.limit trace
traces_of s w m trace r is (inl u) shows =
    inl (r, subst (λ (job : Job). Undecides job m w.limit r) is u, shows)
traces_of s w m trace r is (inr done) shows =
    inr (replayed_of s m w.limit trace r done.second done.faultless shows
    (subst (λ (job : Job). IsSecond job s.contents done.second) is done.loaded)
    (subst (λ (job : Job). Does job m w.limit done.second r) is done.does))

-- where the limit is enough it is judged
judged_of : (s : Session) (m : System) (limit : ℕ) (trace : List ℕ) → enough m ≤ limit
    → IsReplayed s m limit trace → IsJudged s m trace
judged_of s m limit trace le told = elim told.replayed [
  | inl refused ↦ record {
    bytes = told.bytes;
    there = told.there;
    reply = told.reply;
    judged = inl refused;
    shows = told.shows;
  }
  | inr rest ↦ elim rest [
    | inl found ↦ record {
      bytes = told.bytes;
      there = told.there;
      reply = told.reply;
      judged = inr found;
      shows = told.shows;
    }
    | inr left ↦ (let below = left.of_limit.1 in absurd (omega (arith, le, below)))
  ]
]

pub replays : (s : Session) → RefusesModels s → TakesModels s → ReplaysTraces s
replays s refuses takes = record {
  replays = λ quiet w bytes m trace asks is has other.
      let taken = takes.takes quiet w bytes m asks has other in
      traces_of s w m trace taken.0 is taken.1 taken.2;
  always = λ quiet w bytes m trace asks is accepted le.
      let other = refuses.never quiet w bytes m asks accepted
      (names_none w.job (Replay trace) m is refl) in
      let taken = takes.takes quiet w bytes m asks accepted.has other in
      elim (traces_of s w m trace taken.0 is taken.1 taken.2) [
        | inl left ↦ (let below = left.1.of_limit.1 in absurd (omega (arith, le, below)))
        | inr told ↦ judged_of s m w.limit trace le told
      ];
}

-- ---- strong

strong_of : (s : Session) (m : System) (limit : ℕ) (pairs : List (ℕ × ℕ)) (r : Reply)
    → IsFaultless m → Shows s r → StrongReply m limit pairs r
    → ((r : Reply) × LeavesStrong m limit r × Shows s r) ⊎ IsStrongFound s m pairs
strong_of s m limit pairs r faultless shows (inl tells) = inr (record {
  faultless = faultless;
  found = inl (record {
    path = tells.path;
    is = tells.is;
    status = shows.status ∙ ap status_of tells.ends;
    puts = subst (Puts s) tells.text shows.text;
  });
})
strong_of s m limit pairs r faultless shows (inr (inl tells)) = inr (record {
  faultless = faultless;
  found = inr (record {
    nodes = tells.nodes;
    certificate = tells.certificate;
    is = tells.is;
    status = shows.status ∙ ap status_of tells.ends;
    puts = subst (Puts s) tells.text shows.text;
  });
})
strong_of s m limit pairs r faultless shows (inr (inr left)) = inl (r, left, shows)

paths_of : (s : Session) (w : Work) (m : System) (pairs : List (ℕ × ℕ)) (r : Reply)
    → w.job ≡ Strong pairs → Takes w s.contents m r → Shows s r
    → ((r : Reply) × LeavesStrong m w.limit r × Shows s r) ⊎ IsStrongFound s m pairs
paths_of s w m pairs r is (inl u) shows =
    inl (r, subst (λ (job : Job). Undecides job m w.limit r) is u, shows)
paths_of s w m pairs r is (inr done) shows =
    strong_of s m w.limit pairs r done.faultless shows
    (subst (λ (job : Job). Does job m w.limit done.second r) is done.does)

pub finds_strong : (s : Session) → RefusesModels s → TakesModels s → FindsStrongPaths s
finds_strong s refuses takes = record {
  finds = λ quiet w bytes m pairs asks is has other.
      let taken = takes.takes quiet w bytes m asks has other in
      paths_of s w m pairs taken.0 is taken.1 taken.2;
  always = λ quiet w bytes m pairs asks is accepted names le.
      let other = refuses.never quiet w bytes m asks accepted names in
      let taken = takes.takes quiet w bytes m asks accepted.has other in
      elim (paths_of s w m pairs taken.0 is taken.1 taken.2) [
        | inl left ↦ (let below = left.1.of_limit.1 in absurd (omega (arith, le, below)))
        | inr told ↦ told
      ];
}
