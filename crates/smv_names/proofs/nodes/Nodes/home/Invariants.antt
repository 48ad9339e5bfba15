use Rattle.std.proofs.Common.{◌<◌, ◌≤◌, ◌-◌, length}
use Rattle.smv_instances.specs.Program.{Program}
use Rattle.smv_instances.specs.Instances.{all_entries}
use Rattle.smv_names.specs.Nodes.{AreNodes, IsBetween}
use Rattle.smv_names.proofs.nodes.Nodes.home.Given as goal

abbrev pub invariant-loop-high : goal.invariant-loop-high
invariant-loop-high l = record {
  rising : l.low < l.high;
  within : l.high ≤ length l.self.firsts.items;
  between : (p : Program) → AreNodes p l.self → l.node < length (all_entries p) → IsBetween p l.node l.low l.high;
}

abbrev pub decreases-loop-high : goal.decreases-loop-high
decreases-loop-high l = l.high - l.low
