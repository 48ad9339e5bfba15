use Rattle.std.proofs.Common.{◌≡◌, ◌+◌, ◌≤◌, ◌++◌, reverse, vec_len, vec_capacity}
use Rattle.strong_export.specs.Parted.{row_pins}
use Rattle.strong_export.proofs.parting.move_rows.Given as goal

-- the sets that are moved, and those that are left, last first; there is room for them
abbrev pub invariant-loop-row : goal.invariant-loop-row
invariant-loop-row l =
    (l.pins.items ++ row_pins (reverse l.rows.items)
    ≡ l.fn.pins.items ++ row_pins l.fn.rows.items)
    × (vec_len l.pins + vec_len l.rows ≤ vec_capacity l.pins)

abbrev pub decreases-loop-row : goal.decreases-loop-row
decreases-loop-row l = goal.left-loop-row l
