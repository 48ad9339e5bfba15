use Rattle.std.proofs.Common.{ℕ, ◌<◌, ◌≤◌}
use Rattle.kripke_model.specs.Evaluation.{Holds}
use Rattle.kripke_model.specs.Path.{at}
use Rattle.kripke_model.specs.Reading.{term_of}
use Rattle.trace_loop.proofs.falsifying.some_holds.Given as goal

abbrev pub invariant-loop-j : goal.invariant-loop-j
invariant-loop-j l = (k : ℕ) → l.first ≤ k → k < l.j → Holds l.model (term_of l.expr) (at l.lasso k) (at l.lasso k) → ⊥
