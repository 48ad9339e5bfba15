use Rattle.std.proofs.Common.{◌≡◌, ◌++◌, take}
use Rattle.graph_order.specs.Graphs.{IsStarted}
use Rattle.smv_static.proofs.ways.add_edges.Given as goal

-- the edges to those of the row so far
abbrev pub invariant-loop-y : goal.invariant-loop-y
invariant-loop-y l = record {
  started : IsStarted l.graph.firsts.items l.graph.targets.items;
  firsts : l.graph.firsts.items ≡ l.initial.graph.firsts.items;
  targets : l.graph.targets.items ≡ l.initial.graph.targets.items ++ take l.y-index l.row;
}
