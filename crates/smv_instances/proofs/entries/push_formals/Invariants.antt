use Rattle.std.proofs.Common.{◌≡◌, ◌++◌, map, take}
use Rattle.smv_instances.specs.Plain.{plain_formal}
use Rattle.smv_instances.specs.Entries.{of_formal}
use Rattle.smv_instances.specs.Numbered.{plain_entry}
use Rattle.smv_instances.proofs.entries.push_formals.Given as goal

abbrev pub invariant-loop-formal : goal.invariant-loop-formal
invariant-loop-formal l = map plain_entry l.entries.items ≡ map plain_entry l.initial.entries.items ++ map of_formal (map plain_formal (take l.formal-index l.formals))
