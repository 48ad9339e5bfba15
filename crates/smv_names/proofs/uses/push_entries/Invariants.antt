use Rattle.std.proofs.Common.{◌+◌}
use Rattle.smv_instances.specs.Program.{Program}
use Rattle.graph_order.specs.Graphs.{IsStarted}
use Rattle.smv_names.specs.Nodes.{entries_before}
use Rattle.smv_names.specs.Ready.{AreTargets}
use Rattle.smv_names.specs.Uses.{AreUses}
use Rattle.smv_names.proofs.uses.push_entries.Given as goal

abbrev pub invariant-loop-place : goal.invariant-loop-place
invariant-loop-place l = record {
  started : IsStarted l.graph.firsts.items l.graph.targets.items;
  uses : (p : Program) → AreTargets p l.instances l.targets → AreUses p l.initial.graph.firsts.items l.initial.graph.targets.items (entries_before p l.i) → AreUses p l.graph.firsts.items l.graph.targets.items (entries_before p l.i + l.place);
}
