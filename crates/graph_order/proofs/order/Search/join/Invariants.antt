use Rattle.std.proofs.Common.{◌≡◌, ◌<◌, length, vec_len, get_or}
use Rattle.graph_order.specs.Searches.{Joins}
use Rattle.graph_order.proofs.order.Search.join.Given as goal

abbrev pub invariant-loop-self : goal.invariant-loop-self
invariant-loop-self l = record {
  some : 0 < length l.self.bounds.items;
  zero : get_or l.self.bounds.items 0 0 ≡ 0;
  keeps : Joins l.place l.initial.self l.self;
  others : l.self ≡ record l.initial.self { bounds = l.self.bounds };
}

abbrev pub decreases-loop-self : goal.decreases-loop-self
decreases-loop-self l = vec_len l.self.bounds
