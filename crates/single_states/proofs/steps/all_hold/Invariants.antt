use Rattle.std.proofs.Common.{ℕ, ◌<◌, get_or}
use Rattle.kripke_model.specs.System.{Condition}
use Rattle.kripke_model.specs.Evaluation.{Holds}
use Rattle.single_states.proofs.steps.all_hold.Given as goal

-- the items so far hold
abbrev pub invariant-loop-item : goal.invariant-loop-item
invariant-loop-item l = (k : ℕ) → k < l.item-index → (d : Condition) → Holds l.model (get_or l.items k d).expr l.s l.t
