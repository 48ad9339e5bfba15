use Rattle.std.proofs.Common.{ℕ, ◌<◌, get_or}
use Rattle.kripke_model.specs.System.{State}
use Rattle.kripke_model.specs.Evaluation.{Holds}
use Rattle.single_states.proofs.steps.is_visited.Given as goal

-- it holds at none of the states so far
abbrev pub invariant-loop-s : goal.invariant-loop-s
invariant-loop-s l = (k : ℕ) → k < l.s-index → (d : State) → Holds l.model l.item.expr (get_or l.states k d) (get_or l.states k d) → ⊥
