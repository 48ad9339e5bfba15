use Rattle.std.proofs.Common.{◌≡◌, ◌+◌, ◌*◌, length, Some}
use Rattle.smv_instances.specs.Program.{Program}
use Rattle.smv_names.specs.declared.states.State.TheVariants as state
use Rattle.smv_names.specs.Passed.{Keeps, KeepsStack, state_at, unseen_count}
use Rattle.smv_names.specs.Ready.{AreStarted}
use Rattle.smv_names.proofs.deciding.decide.Given as goal

abbrev pub invariant-loop-top : goal.invariant-loop-top
invariant-loop-top l =
    ((p : Program) → AreStarted p l.instances l.fn.targets → KeepsStack p l.targets.states l.stack.items)
    × Keeps l.fn.targets.states l.targets.states
    × (l.targets.nodes ≡ l.fn.targets.nodes)
    × (state_at l.targets.states l.fn.at ≡ Some state.Unseen → ⊥)

abbrev pub decreases-loop-top : goal.decreases-loop-top
decreases-loop-top l = 2 * unseen_count l.targets.states + length l.stack.items
