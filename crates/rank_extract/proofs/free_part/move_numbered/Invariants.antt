use Rattle.std.proofs.Common.{◌≡◌, ◌+◌, ◌≤◌, ◌++◌, map, reverse, vec_len, vec_capacity}
use Rattle.rank_extract.specs.FreeMade.{numbered}
use Rattle.rank_extract.proofs.free_part.move_numbered.Given as goal

-- the entries that are moved, and those that are left, last first; there is room for them
abbrev pub invariant-loop-entry : goal.invariant-loop-entry
invariant-loop-entry l =
    (l.entries.items ++ map (numbered l.number) (reverse l.own.items) ≡ l.fn.entries.items ++ map (numbered l.number) l.fn.own.items)
    × (vec_len l.entries + vec_len l.own ≤ vec_capacity l.entries)

abbrev pub decreases-loop-entry : goal.decreases-loop-entry
decreases-loop-entry l = goal.left-loop-entry l
