use Rattle.std.proofs.Common.{ℕ, ◌+◌, ◌<◌}
use Rattle.kripke_model.specs.Step.{IsState, Step}
use Rattle.kripke_model.specs.Path.{at}
use Rattle.single_states.proofs.steps.is_path.Given as goal

abbrev pub invariant-loop-n : goal.invariant-loop-n
invariant-loop-n l = (k : ℕ) → k < l.n → IsState l.model (at l.lasso k)

abbrev pub invariant-loop-n-2 : goal.invariant-loop-n-2
invariant-loop-n-2 l = (k : ℕ) → k < l.n → Step l.model (at l.lasso k) (at l.lasso (k + 1))
