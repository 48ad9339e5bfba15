use Rattle.std.proofs.Common.{map, take, Ok}
use Rattle.fair_fixpoint.specs.Runs.{layer_views}
use Rattle.rank_extract.specs.Given.{written_layer}
use Rattle.rank_extract.specs.Made.{AreAdded, layer_own, layer_seen, one}
use Rattle.rank_extract.proofs.copying.add_layers.Given as goal

abbrev pub invariant-loop-k : goal.invariant-loop-k
invariant-loop-k g l = AreAdded {T = Unit {0}} layer_own layer_seen one (g.S.StateSets.seen l.fn.sets) (g.S.StateSets.seen l.sets) (take l.k (map written_layer (layer_views (g.S.StateSets.seen l.fn.sets) l.layers))) l.fn.copies.items l.copies.items (Ok tt)
