use Rattle.smv_instances.specs.Program.{Program}
use Rattle.smv_names.specs.Ready.{AreTargets}
use Rattle.smv_names.specs.Ordered.{AreOrdered}
use Rattle.smv_names.specs.Filling.{AreFilled}
use Rattle.smv_names.proofs.tables.tables_of.Given as goal

abbrev pub invariant-loop-k : goal.invariant-loop-k
invariant-loop-k l = (p : Program) → AreTargets p l.instances l.targets → AreOrdered p l.order.order.items l.order.circular.items → AreFilled p l.order.order.items l.k l.tables
