use Rattle.std.proofs.Common.{take, Ok}
use Rattle.region_sets.specs.Ranks.{list_regions}
use Rattle.rank_extract.specs.Made.{AreAdded, list_own, list_seen, many}
use Rattle.rank_extract.proofs.copying.add_lists.Given as goal

abbrev pub invariant-loop-k : goal.invariant-loop-k
invariant-loop-k g l = AreAdded {T = Unit {0}} list_own list_seen many (g.S.StateSets.seen l.fn.sets) (g.S.StateSets.seen l.sets) (take l.k (list_regions (g.S.StateSets.seen l.fn.sets) l.lists)) l.fn.copies.items l.copies.items (Ok tt)
