use Rattle.std.proofs.Common.{List, take, reverse}
use Rattle.smv_instances.specs.Program.{Program}
use Rattle.std.specs.List.{AllZip}
use Rattle.smv_names.specs.Denotes.{Bracket}
use Rattle.smv_names.specs.Expands.{IsIndex}
use Rattle.smv_names.specs.Targets.{AreBrackets}
use Rattle.smv_names.specs.Ready.{AreTargets}
use Rattle.smv_names.specs.Known.{AreNumbers}
use Rattle.smv_names.proofs.checks.index_values.Given as goal

abbrev pub invariant-loop-bracket : goal.invariant-loop-bracket
invariant-loop-bracket l = (p : Program) (bs : List Bracket) → AreTargets p l.instances l.targets → AreNumbers p l.numbers → AreBrackets p l.indexes bs → AllZip (IsIndex p) (take l.bracket-index (reverse bs)) l.values.items
