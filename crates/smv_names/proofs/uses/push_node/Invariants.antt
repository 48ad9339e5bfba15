use Rattle.std.proofs.Common.{◌≡◌, ◌++◌, take}
use Rattle.graph_order.specs.Graphs.{IsStarted}
use Rattle.smv_names.proofs.uses.push_node.Given as goal

abbrev pub invariant-loop-target : goal.invariant-loop-target
invariant-loop-target l = record {
  started : IsStarted l.graph.firsts.items l.graph.targets.items;
  firsts : l.graph.firsts.items ≡ l.initial.graph.firsts.items;
  targets : l.graph.targets.items ≡ l.initial.graph.targets.items ++ take l.target-index l.targets;
}
