use Rattle.std.proofs.Common.{◌≡◌, ◌<◌, Some}
use Rattle.smv_instances.specs.Program.{Program}
use Rattle.smv_names.specs.declared.states.Parameter.{Parameter}
use Rattle.smv_names.specs.declared.states.State.TheVariants as state
use Rattle.smv_names.specs.Passed.{AreIdle, AreStates, Keeps, state_at}
use Rattle.smv_names.specs.Ready.{AreStarted}
use Rattle.smv_names.proofs.deciding.decide_row.Given as goal

abbrev pub invariant-loop-place : goal.invariant-loop-place
invariant-loop-place l =
    ((p : Program) → AreStarted p l.instances l.fn.targets → AreStates p l.targets.states)
    × AreIdle l.targets.states
    × Keeps l.fn.targets.states l.targets.states
    × (l.targets.nodes ≡ l.fn.targets.nodes)
    × ((at : Parameter) → at.instance ≡ l.i → at.place < l.place → state_at l.targets.states at ≡ Some state.Unseen → ⊥)
