use Rattle.std.proofs.Common.{ℕ, ◌<◌, get_or}
use Rattle.std.specs.Prelude.{Any}
use Rattle.kripke_model.specs.System.{Condition}
use Rattle.kripke_model.specs.Evaluation.{Holds}
use Rattle.single_states.proofs.steps.all_visited.Given as goal

-- the items so far are visited
abbrev pub invariant-loop-item : goal.invariant-loop-item
invariant-loop-item l = (k : ℕ) → k < l.item-index → (d : Condition) → Any (λ s. Holds l.model (get_or l.items k d).expr s s) l.states
