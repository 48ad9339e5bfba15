use Rattle.std.proofs.Common.{◌≡◌, ◌≤◌, ◌-◌, length, replicate}
use Rattle.smv_names.specs.declared.states.State.TheVariants as state
use Rattle.smv_names.proofs.states.unseen_row.Given as goal

abbrev pub invariant-loop-row : goal.invariant-loop-row
invariant-loop-row l = (l.row.items ≡ replicate (length l.row.items) state.Unseen) × (length l.row.items ≤ l.count)

abbrev pub decreases-loop-row : goal.decreases-loop-row
decreases-loop-row l = l.count - length l.row.items
