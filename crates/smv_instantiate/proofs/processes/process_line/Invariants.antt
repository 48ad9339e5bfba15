use Rattle.std.proofs.Common.{◌≡◌, [], flat_map, take}
use Rattle.std.specs.Prelude.{filter}
use Rattle.smv_instances.specs.Program.{Program}
use Rattle.smv_instances.specs.Instances.{instances}
use Rattle.smv_instances.specs.Walk.{AreRows}
use Rattle.smv_instantiate.proofs.ProcessSteps.{placed, is_process_entry}
use Rattle.smv_instantiate.proofs.processes.process_line.Given as goal

-- none of the bodies so far declares a process instance
abbrev pub invariant-loop-row : goal.invariant-loop-row
invariant-loop-row l = (p : Program) → AreRows l.modules l.rows (instances p) → filter is_process_entry (flat_map placed (take l.row-index (instances p))) ≡ []
