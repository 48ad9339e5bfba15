use Rattle.std.proofs.Common.{◌≡◌, ◌++◌, map, take}
use Rattle.smv_instances.specs.Plain.{plain_definition}
use Rattle.smv_instances.specs.Entries.{of_definition}
use Rattle.smv_instances.specs.Numbered.{plain_entry}
use Rattle.smv_instances.proofs.entries.push_definitions.Given as goal

abbrev pub invariant-loop-definition : goal.invariant-loop-definition
invariant-loop-definition l = map plain_entry l.entries.items ≡ map plain_entry l.initial.entries.items ++ map of_definition (map plain_definition (take l.definition-index l.definitions))
