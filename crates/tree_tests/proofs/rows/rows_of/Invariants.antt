use Rattle.region_sets.specs.Sets.{Adds}
use Rattle.strong_fair.specs.Pinned.{row_slots}
use Rattle.tree_tests.proofs.rows.rows_of.Given as goal

abbrev pub invariant-loop-which : goal.invariant-loop-which
invariant-loop-which g l = Adds (g.S.StateSets.seen l.fn.sets) (g.S.StateSets.seen l.sets) (row_slots l.rows.items)
