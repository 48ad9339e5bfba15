use Rattle.std.proofs.Common.{◌≤◌}
use Rattle.smv_instances.specs.Program.{Program}
use Rattle.smv_names.specs.Passed.{AreLost, Keeps, unseen_count}
use Rattle.smv_names.proofs.deciding.give_up.Given as goal

abbrev pub invariant-loop-at : goal.invariant-loop-at
invariant-loop-at l = ((p : Program) → AreLost p l.fn.states l.fn.stack.items → AreLost p l.states l.stack.items) × Keeps l.fn.states l.states × (unseen_count l.states ≤ unseen_count l.fn.states)

abbrev pub decreases-loop-at : goal.decreases-loop-at
decreases-loop-at l = goal.left-loop-at l
