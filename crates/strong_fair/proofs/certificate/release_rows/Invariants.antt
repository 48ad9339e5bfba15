use Rattle.std.proofs.Common.{◌≡◌, ℕ, List, ◌++◌}
use Rattle.region_sets.specs.Sets.{Adds}
use Rattle.strong_fair.specs.Pinned.{row_slots}
use Rattle.strong_fair.proofs.certificate.release_rows.Given as goal

-- some slots are released, and the others are left
abbrev pub invariant-loop-row : goal.invariant-loop-row
invariant-loop-row g l = (gone : List ℕ)
    × (row_slots l.initial.rows.items ≡ row_slots l.rows.items ++ gone)
    × Adds (g.S.StateSets.seen l.sets) (g.S.StateSets.seen l.initial.sets) gone
    × ((g.S.StateSets.seen l.sets).fulls ≡ (g.S.StateSets.seen l.initial.sets).fulls)

abbrev pub decreases-loop-row : goal.decreases-loop-row
decreases-loop-row g l = goal.left-loop-row g l
