use Rattle.strong_fair.proofs.Taking.{IsTaking}
use Rattle.strong_fair.proofs.rows.rows_hold.Given as goal

abbrev pub invariant-loop-row : goal.invariant-loop-row
invariant-loop-row g l = IsTaking (g.S.StateSets.seen l.fn.sets) l.pairs l.inside.slot l.rows (g.S.StateSets.seen l.sets) l.left.slot l.row-index
