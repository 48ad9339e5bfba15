use Rattle.std.proofs.Common.{◌≡◌, List, map, take, Some}
use Rattle.std.specs.Prelude.{filter, slice_get}
use Rattle.smv_instances.specs.declared.modules.Modules.{Modules}
use Rattle.smv_instances.specs.Instances.{Scope, is_process, process_name}
use Rattle.std.specs.List.{AllZip}
use Rattle.smv_instances.specs.Walk.{AreRows}
use Rattle.smv_instantiate.proofs.processes.processes_of.Given as goal

-- the names of the processes so far
abbrev pub invariant-loop-number : goal.invariant-loop-number
invariant-loop-number l = (ms : Modules) (done : List Scope) → AreRows ms l.rows done → AllZip (λ n c. slice_get done n ≡ Some c) l.numbers (filter is_process done) → l.names.items ≡ map process_name (take l.number-index (filter is_process done))
