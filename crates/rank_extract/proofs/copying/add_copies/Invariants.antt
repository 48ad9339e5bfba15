use Rattle.std.proofs.Common.{take, Ok}
use Rattle.region_sets.specs.Sets.{region}
use Rattle.region_sets.specs.Ranks.{regions}
use Rattle.rank_extract.specs.Made.{AreAdded, pin_own, one}
use Rattle.rank_extract.proofs.copying.add_copies.Given as goal

abbrev pub invariant-loop-k : goal.invariant-loop-k
invariant-loop-k g l = AreAdded {T = Unit {0}} pin_own region one (g.S.StateSets.seen l.fn.sets) (g.S.StateSets.seen l.sets) (take l.k (regions (g.S.StateSets.seen l.fn.sets) l.list)) l.fn.copies.items l.copies.items (Ok tt)
