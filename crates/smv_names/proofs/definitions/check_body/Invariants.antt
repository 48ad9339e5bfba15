use Rattle.std.proofs.Common.{◌+◌}
use Rattle.smv_instances.specs.Program.{Program}
use Rattle.smv_names.specs.Nodes.{entries_before}
use Rattle.smv_names.specs.Definitions.{AreDefinedUpTo, AreReady}
use Rattle.smv_names.proofs.definitions.check_body.Given as goal

abbrev pub invariant-loop-k : goal.invariant-loop-k
invariant-loop-k l = (p : Program) → AreReady p l.instances l.targets l.order l.numbers → AreDefinedUpTo p (entries_before p l.i) → AreDefinedUpTo p (entries_before p l.i + l.k)
