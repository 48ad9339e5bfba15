-- What is promised of each command, in its own words: a record for each, which the promises of
-- every call give.
use Rattle.std.specs.Prelude.{◌≡◌, ◌≢◌, ◌⊎◌, ◌<◌, ◌≤◌, ℕ, List, Option, Some, None, IfSome}
use Rattle.std.specs.Prelude.{count_by}
use Rattle.bdd_nodes.specs.declared.triple.Triple.{Triple}
use Rattle.command_words.specs.Words.{Work, Decide, Recheck, Delay, Replay, Strong, Print}
use Rattle.command_words.specs.Words.{command_of}
use Rattle.command_replies.specs.Delayed.{AreDelays, LeavesDelays, delays_line}
use Rattle.delay_bounds.specs.Delays as delays
use Rattle.kripke_model.specs.Faults.{IsFaultless}
use Rattle.kripke_model.specs.Path.{Lasso}
use Rattle.kripke_model.specs.System.{System}
use Rattle.smv_rings.specs.Rings.{ring_text}
use Rattle.command_replies.specs.Answers.{Answer, AreAccepted}
use Rattle.command_replies.specs.Rechecked.{Rechecked, LeavesUnanswered}
use Rattle.command_replies.specs.ProofReport.{answers_report}
use Rattle.proof_text.specs.File.{File}
use Rattle.proof_text.specs.Refuses.{Refuses as RefusesText}
use Rattle.proof_text.specs.Spells.{Spells}
use Rattle.proof_text.specs.declared.refusals.TextRefusal.{TextRefusal}
use Rattle.smv_outside.specs.Contents.{bytes_under}
use Rattle.smv_texts.specs.Replies.{Reply}
use Rattle.smv_texts.specs.Report.{Finding, is_unknown, report}
use Rattle.smv_texts.specs.declared.status.Status.{Status}
use Rattle.smv_texts.specs.declared.status.Status.TheVariants.{Clear, Failed, ModelRefused}
use Rattle.spec_verdicts.specs.Checked.{LeavesNoneOut, all_unknown}
use Rattle.spec_verdicts.specs.Exports.{Exports}
use Rattle.spec_verdicts.specs.Verdicts.{AreVerdicts, ShowStates}
use Rattle.command_replies.specs.Strong.{IsNoneFor, IsPathFor, LeavesStrong, no_text, yes_text}
use Rattle.strong_fair.specs.Form.{Certificate}
use Rattle.smv_session.specs.Jobs.{NamesLeaves}
use Rattle.smv_session.specs.Session.{Session, Asks, IsUndisturbed, Leaves, Puts, Shows}
use Rattle.smv_session.specs.Source.{HasModel, IsAccepted}
use Rattle.bit_encode.specs.Enough.{enough}
use Rattle.command_replies.specs.Replayed.{IsTraceJudged, IsTraceRefused, Replayed}

-- `gen N`: the ring's text is put.
pub record GeneratesText (s : Session) : Type 0 where
  pub generates : IsUndisturbed s → (n : ℕ) → command_of s.words ≡ Print n
      → (s.status ≡ Clear) × Puts s (ring_text n)

-- where no proofs are asked for none is left out
abbrev pub TellsOfProofs : Option (List ℕ) → List Finding → Type 0
TellsOfProofs None findings = LeavesNoneOut findings
TellsOfProofs (Some name) findings = Unit {0}

-- what is found of the specifications of a model without faults; or nothing, where the limit was
-- met before that was known; something is unknown only where the limit is below what is enough
pub record AreFoundIn (m : System) (limit : ℕ) (proofs : Option (List ℕ))
    (findings : List Finding) : Type 0 where
  pub verdicts : AreVerdicts m limit findings
  pub known : IsFaultless m ⊎ (findings ≡ all_unknown m limit)
  pub told : TellsOfProofs proofs findings
  pub below : 0 < count_by is_unknown findings → limit < enough m

-- `check`, and `gen N --check`: a model of which no fault is told is answered by the report of one
-- outcome for each specification. True and false come only where the model is accepted and are the
-- truth.
pub record ReportsVerdicts (s : Session) : Type 0 where
  pub reports : IsUndisturbed s
      → (w : Work) (bytes : List ℕ) (m : System) (proofs : Option (List ℕ)) → Asks s w bytes
      → w.job ≡ Decide proofs → HasModel bytes m → s.status ≢ ModelRefused
      → (findings : List Finding) × Puts s (report m findings)
      × AreFoundIn m w.limit proofs findings

-- With a false verdict state 0 is the least initial state at which the specification is false.
pub record ShowsStates (s : Session) : Type 0 where
  pub shows : IsUndisturbed s → (w : Work) (bytes : List ℕ) (m : System) (proofs : Option (List ℕ))
      → Asks s w bytes → w.job ≡ Decide proofs → HasModel bytes m → s.status ≢ ModelRefused
      → (findings : List Finding) × Puts s (report m findings)
      × AreFoundIn m w.limit proofs findings × ShowStates m findings

-- `check --proof`: where a report is put, the file of the proofs of what it tells stands under the
-- name, and all other names keep their bytes.
pub record ExportsProofs (s : Session) : Type 0 where
  pub exports : IsUndisturbed s → (w : Work) (bytes : List ℕ) (m : System) (name : List ℕ)
      → Asks s w bytes → w.job ≡ Decide (Some name) → HasModel bytes m → s.status ≢ ModelRefused
      → (findings : List Finding) × Puts s (report m findings)
      × AreFoundIn m w.limit (Some name) findings
      × ((file : List ℕ) × Exports m findings file
      × Leaves (Some (name, file)) s.contents s.contents_after)

-- what is put and answered for a proof file of a model without faults
pub record IsRechecked (s : Session) (m : System) (limit : ℕ) (proofs : List ℕ) : Type 0 where
  pub faultless : IsFaultless m
  pub bytes : List ℕ
  pub there : IfSome s.contents (λ files. bytes_under files proofs ≡ Some bytes)
  pub reply : Reply
  pub rechecked : Rechecked m limit bytes reply
  pub shows : Shows s reply

-- `recheck`: the proof file is refused, or each of its blocks is answered. It is accepted only
-- where the model is accepted, each of its lines shows what it has to and its claim is true; it is
-- rejected only at the first line that doesn't. Where the limit was met before the model was
-- decided, that alone is told; then the limit is below what is enough.
pub record RechecksProofs (s : Session) : Type 0 where
  pub rechecks : IsUndisturbed s → (w : Work) (bytes : List ℕ) (m : System) (proofs : List ℕ)
      → Asks s w bytes → w.job ≡ Recheck proofs → HasModel bytes m → s.status ≢ ModelRefused
      → ((r : Reply) × LeavesUnanswered m w.limit r × Shows s r)
      ⊎ IsRechecked s m w.limit proofs

-- Where the limit is enough for each line of a block that proves its claim, the block is accepted.
pub record AcceptsProved (s : Session) : Type 0 where
  pub accepts : IsUndisturbed s → (w : Work) (bytes : List ℕ) (m : System) (proofs : List ℕ)
      → Asks s w bytes → w.job ≡ Recheck proofs → IsAccepted bytes m → enough m ≤ w.limit
      → (text : List ℕ) × IfSome s.contents (λ files. bytes_under files proofs ≡ Some text)
      × (((refusal : TextRefusal) × RefusesText m text refusal)
      ⊎ ((file : File) × Spells m file text × ((answers : List Answer)
      × Puts s (answers_report file.blocks answers)
      × AreAccepted m w.limit file.order file.blocks answers)))

-- the statuses of reports in which each specification has a verdict
abbrev pub IsOfVerdicts : Status → Type 0
IsOfVerdicts Clear = Unit {0}
IsOfVerdicts Failed = Unit {0}
IsOfVerdicts status = ⊥

-- Where the limit is enough each specification of an accepted model has a verdict.
pub record DecidesAll (s : Session) : Type 0 where
  pub decides : IsUndisturbed s
      → (w : Work) (bytes : List ℕ) (m : System) (proofs : Option (List ℕ)) → Asks s w bytes
      → w.job ≡ Decide proofs → IsAccepted bytes m → enough m ≤ w.limit
      → IsOfVerdicts s.status
      × ((findings : List Finding) × Puts s (report m findings)
      × AreFoundIn m w.limit proofs findings × (count_by is_unknown findings ≡ 0))

-- what is put where both delays are found, of a model without faults
pub record IsDelayed (s : Session) (m : System) (from to : ℕ) : Type 0 where
  pub faultless : IsFaultless m
  pub shortest : delays.Delay
  pub longest : delays.Delay
  pub are : AreDelays m from to shortest longest
  pub status : s.status ≡ Clear
  pub puts : Puts s (delays_line from to shortest longest)

-- `delay`: the shortest and the longest delay are told, from the states of one specification to
-- those of another. Where the limit was met before both were found, that alone is told; then the
-- limit is below what is enough.
pub record FindsDelays (s : Session) : Type 0 where
  pub finds : IsUndisturbed s → (w : Work) (bytes : List ℕ) (m : System) (from to : ℕ)
      → Asks s w bytes → w.job ≡ Delay from to → HasModel bytes m → s.status ≢ ModelRefused
      → ((r : Reply) × LeavesDelays m w.limit from to r × Shows s r) ⊎ IsDelayed s m from to
  pub always : IsUndisturbed s → (w : Work) (bytes : List ℕ) (m : System) (from to : ℕ)
      → Asks s w bytes → w.job ≡ Delay from to → IsAccepted bytes m → NamesLeaves w.job m
      → enough m ≤ w.limit → IsDelayed s m from to

-- what is put and answered for a trace file of a model without faults
pub record IsReplayed (s : Session) (m : System) (limit : ℕ) (trace : List ℕ) : Type 0 where
  pub faultless : IsFaultless m
  pub bytes : List ℕ
  pub there : IfSome s.contents (λ files. bytes_under files trace ≡ Some bytes)
  pub reply : Reply
  pub replayed : Replayed m limit bytes reply
  pub shows : Shows s reply

-- the trace file is refused, or what is found of its trace is told
pub record IsJudged (s : Session) (m : System) (trace : List ℕ) : Type 0 where
  pub bytes : List ℕ
  pub there : IfSome s.contents (λ files. bytes_under files trace ≡ Some bytes)
  pub reply : Reply
  pub judged : IsTraceRefused m bytes reply ⊎ IsTraceJudged m bytes reply
  pub shows : Shows s reply

-- `replay`: the trace file is refused, or the first thing that is wrong with its trace is told, or
-- that it is accepted: the specification has the shape, and the path is fair, begins at an initial
-- state and falsifies it. Where the limit was met before, that is told; then it is below what is
-- enough.
pub record ReplaysTraces (s : Session) : Type 0 where
  pub replays : IsUndisturbed s → (w : Work) (bytes : List ℕ) (m : System) (trace : List ℕ)
      → Asks s w bytes → w.job ≡ Replay trace → HasModel bytes m → s.status ≢ ModelRefused
      → ((r : Reply) × LeavesUnanswered m w.limit r × Shows s r)
      ⊎ IsReplayed s m w.limit trace
  pub always : IsUndisturbed s → (w : Work) (bytes : List ℕ) (m : System) (trace : List ℕ)
      → Asks s w bytes → w.job ≡ Replay trace → IsAccepted bytes m → enough m ≤ w.limit
      → IsJudged s m trace

-- a strong path is put, for the pairs that these numbers of specifications name
pub record PutsPath (s : Session) (m : System) (pairs : List (ℕ × ℕ)) : Type 0 where
  pub path : Lasso
  pub is : IsPathFor m pairs path
  pub status : s.status ≡ Clear
  pub puts : Puts s (yes_text m path)

-- a certificate is put that holds for the pairs, and there is no strong path
pub record PutsNone (s : Session) (m : System) (pairs : List (ℕ × ℕ)) : Type 0 where
  pub nodes : List Triple
  pub certificate : Certificate ℕ
  pub is : IsNoneFor m pairs nodes certificate
  pub status : s.status ≡ Failed
  pub puts : Puts s (no_text nodes certificate)

-- what is put where either is found, of a model without faults
pub record IsStrongFound (s : Session) (m : System) (pairs : List (ℕ × ℕ)) : Type 0 where
  pub faultless : IsFaultless m
  pub found : PutsPath s m pairs ⊎ PutsNone s m pairs

-- `strong`: a fair path from an initial state is told that is strongly fair to the pairs, or a
-- certificate that there is none. Where the limit was met before either was found, that alone is
-- told; then the limit is below what is enough.
pub record FindsStrongPaths (s : Session) : Type 0 where
  pub finds : IsUndisturbed s
      → (w : Work) (bytes : List ℕ) (m : System) (pairs : List (ℕ × ℕ)) → Asks s w bytes
      → w.job ≡ Strong pairs → HasModel bytes m → s.status ≢ ModelRefused
      → ((r : Reply) × LeavesStrong m w.limit r × Shows s r) ⊎ IsStrongFound s m pairs
  pub always : IsUndisturbed s
      → (w : Work) (bytes : List ℕ) (m : System) (pairs : List (ℕ × ℕ)) → Asks s w bytes
      → w.job ≡ Strong pairs → IsAccepted bytes m → NamesLeaves w.job m → enough m ≤ w.limit
      → IsStrongFound s m pairs
