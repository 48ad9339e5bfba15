use Rattle.std.proofs.Common.{◌≡◌, ℕ, ◌<◌, length, false}
use Rattle.graph_order.specs.Searches.{mark, nodes, Keeps, is_unseen}
use Rattle.graph_order.proofs.order.order_of.Given as goal

abbrev pub invariant-loop-root : goal.invariant-loop-root
invariant-loop-root l = record {
  keeps : Keeps l.graph l.search;
  empty : length l.search.path.items ≡ 0;
  seen : (v : ℕ) → v < l.root → is_unseen (mark l.search.marks.items v) ≡ false;
  count : l.count ≡ nodes l.graph;
}
