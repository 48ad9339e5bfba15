use Rattle.smv_instances.specs.Program.{Program}
use Rattle.smv_instances.specs.Built.{AreInstances}
use Rattle.smv_names.proofs.NodeLemmas.{AreNumbered}
use Rattle.smv_names.proofs.nodes.Nodes.build.Given as goal

abbrev pub invariant-loop-i : goal.invariant-loop-i
invariant-loop-i l = (p : Program) → AreInstances p l.instances → AreNumbered p l.firsts.items l.count l.i
