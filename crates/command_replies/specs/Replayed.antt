-- The reply to a trace file of a model without faults, within a node limit.
use Rattle.std.specs.Prelude.{◌≡◌, ◌⊎◌, ℕ, List, [], ◌∷◌, ◌++◌, codes, decimal, None}
use Rattle.std.specs.Global.{Vec}
use Rattle.bdd_nodes.specs.declared.refusal.Held.{Held}
use Rattle.kripke_model.specs.System.{System}
use Rattle.smv_texts.specs.Evidence.{IsMet}
use Rattle.smv_texts.specs.Replies.{Reply, text_of}
use Rattle.smv_texts.specs.Texts.{line}
use Rattle.smv_texts.specs.declared.ending.Ending.{Ending}
use Rattle.smv_texts.specs.declared.ending.Ending.TheVariants as endings
use Rattle.trace_check.specs.Judged.{JudgedAs}
use Rattle.trace_check.specs.declared.judged.Judged.{Judged}
use Rattle.trace_check.specs.declared.judged.Judged.TheVariants as found
use Rattle.trace_files.specs.Refuses.{Refuses}
use Rattle.trace_files.specs.Spells.{Spells}
use Rattle.trace_files.specs.Trace.{Trace}
use Rattle.trace_files.specs.declared.refusals.TraceRefusal.{TraceRefusal}

-- ---- the lines

-- states count from 0, constraints from 1
abbrev pub judged_text : Judged → List ℕ
judged_text found.Shape = codes "rejected shape"
judged_text found.Initial = codes "rejected initial"
judged_text (found.Step n) = codes "rejected step " ++ decimal n
judged_text (found.Unfair k) = codes "rejected fair " ++ decimal k
judged_text found.Property = codes "rejected property"
judged_text found.Accepted = codes "accepted"

-- what is found of a trace of specification j
abbrev pub replay_line : (j : ℕ) → Judged → List ℕ
replay_line j judged = line (codes "trace " ++ decimal j ++ codes " " ++ judged_text judged)

abbrev pub unanswered_line : (j limit : ℕ) → List ℕ
unanswered_line j limit =
    line (codes "trace " ++ decimal j ++ codes " unanswered: node limit " ++ decimal limit)

-- why a trace file is refused; want of memory is no reason, and is never told
abbrev pub trace_reason : TraceRefusal → List ℕ
trace_reason (TraceRefusal.BadLine l) = codes "Q1 line " ++ decimal l
trace_reason (TraceRefusal.Truncated l) = codes "Q2 line " ++ decimal l
trace_reason TraceRefusal.TooLong = codes "Q3"
trace_reason TraceRefusal.Memory = []

abbrev pub trace_refusal_line : TraceRefusal → List ℕ
trace_refusal_line r = line (codes "refused " ++ trace_reason r)

-- ---- the replies

-- a trace that is accepted ends the call well, and any other one doesn't
abbrev pub ends_judged : Judged → Ending
ends_judged found.Shape = endings.Failed
ends_judged found.Initial = endings.Failed
ends_judged (found.Step n) = endings.Failed
ends_judged (found.Unfair k) = endings.Failed
ends_judged found.Property = endings.Failed
ends_judged found.Accepted = endings.Clear

-- the text is no trace file of the model: its line is put
pub record IsTraceRefused (m : System) (bytes : List ℕ) (r : Reply) : Type 0 where
  pub refusal : TraceRefusal
  pub applies : Refuses m bytes refusal
  pub text : text_of r ≡ trace_refusal_line refusal
  pub ends : r.ending ≡ endings.ProofRefused
  pub saves : r.saves ≡ None

-- what is found of the trace is told
pub record IsTraceJudged (m : System) (bytes : List ℕ) (r : Reply) : Type 0 where
  pub trace : Trace
  pub spelled : Spells m trace bytes
  pub judged : Judged
  pub judged_is : JudgedAs m trace judged
  pub text : text_of r ≡ replay_line trace.spec judged
  pub ends : r.ending ≡ ends_judged judged
  pub saves : r.saves ≡ None

-- The limit was met before the trace was judged: one full store is the evidence, and the limit is
-- below what is enough.
pub record IsTraceLeft (m : System) (limit : ℕ) (bytes : List ℕ) (r : Reply) : Type 0 where
  pub trace : Trace
  pub spelled : Spells m trace bytes
  pub held : Vec Held
  pub full : Held
  pub one : held.items ≡ full ∷ []
  pub of_limit : IsMet m limit full
  pub text : text_of r ≡ unanswered_line trace.spec limit
  pub ends : r.ending ≡ endings.Undecided held
  pub saves : r.saves ≡ None

abbrev pub Replayed : System → ℕ → List ℕ → Reply → Type 0
Replayed m limit bytes r =
    IsTraceRefused m bytes r ⊎ IsTraceJudged m bytes r ⊎ IsTraceLeft m limit bytes r
