use Rattle.std.proofs.Common.{take}
use Rattle.std.specs.List.{AllZip}
use Rattle.smv_instances.specs.Program.{Program}
use Rattle.smv_instances.specs.Instances.{all_entries}
use Rattle.smv_names.specs.Ready.{AreTargets}
use Rattle.smv_instantiate.specs.Firsts.{IsFirst}
use Rattle.smv_instantiate.specs.Names.{AreVariableNames}
use Rattle.smv_instantiate.specs.Written.{IsWritten}
use Rattle.smv_instantiate.proofs.firsts.firsts_of.Given as goal

-- the first flat variables of the entries so far
abbrev pub invariant-loop-node : goal.invariant-loop-node
invariant-loop-node l = (p : Program) → AreTargets p l.instances l.targets → IsWritten p → AreVariableNames p l.names → AllZip (IsFirst p) l.firsts.items (take l.node (all_entries p))
