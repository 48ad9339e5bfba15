use Rattle.std.proofs.Common.{◌≡◌}
use Rattle.graph_order.specs.Searches.{RanksFrom}
use Rattle.graph_order.proofs.order.Search.rank_from.Given as goal

abbrev pub invariant-loop-place : goal.invariant-loop-place
invariant-loop-place l = record {
  ranks : RanksFrom l.bottom l.circular l.initial.self.stack.items l.initial.self.marks.items l.self.marks.items l.initial.self.order.items l.self.order.items l.initial.self.circular.items l.self.circular.items l.place;
  stack : l.self.stack.items ≡ l.initial.self.stack.items;
  path : l.self.path.items ≡ l.initial.self.path.items;
  bounds : l.self.bounds.items ≡ l.initial.self.bounds.items;
}
