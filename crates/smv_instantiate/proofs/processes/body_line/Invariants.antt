use Rattle.std.proofs.Common.{◌≡◌, [], map, take}
use Rattle.std.specs.Prelude.{filter}
use Rattle.smv_instances.specs.Instances.{declares_process}
use Rattle.smv_instances.specs.Numbered.{plain_entry}
use Rattle.smv_instantiate.proofs.processes.body_line.Given as goal

-- none of the entries so far is a process instance
abbrev pub invariant-loop-entry : goal.invariant-loop-entry
invariant-loop-entry l = filter (λ e. declares_process e.entity) (map plain_entry (take l.entry-index l.entries)) ≡ []
