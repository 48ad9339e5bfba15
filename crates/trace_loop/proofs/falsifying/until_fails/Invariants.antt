use Rattle.std.proofs.Common.{ℕ, ◌+◌, ◌<◌, ◌≤◌, true}
use Rattle.kripke_model.specs.Ctl.{Ctl}
use Rattle.kripke_model.specs.Path.{at}
use Rattle.kripke_model.specs.Reading.{term_of}
use Rattle.trace_loop.specs.Above.{FalsifiesBelow}
use Rattle.trace_loop.proofs.falsifying.until_fails.Given as goal

abbrev pub invariant-loop-i : goal.invariant-loop-i
invariant-loop-i l = (k : ℕ) → l.fn.starts.first ≤ k → k < l.i + l.clear
    → FalsifiesBelow l.model (at l.lasso) l.above (Ctl.Until true (Ctl.Leaf (term_of l.d)) (Ctl.Leaf (term_of l.e))) k → ⊥
