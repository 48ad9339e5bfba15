use Rattle.graph_order.specs.Graphs.{IsStarted}
use Rattle.smv_static.specs.Ways.{HasRows}
use Rattle.smv_static.proofs.ways.graph_of.Given as goal

-- the rows so far
abbrev pub invariant-loop-x : goal.invariant-loop-x
invariant-loop-x l = record {
  started : IsStarted l.graph.firsts.items l.graph.targets.items;
  rows : HasRows l.base l.extra l.variables l.x l.graph.firsts.items l.graph.targets.items;
}
