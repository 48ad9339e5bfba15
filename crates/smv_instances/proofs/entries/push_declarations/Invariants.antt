use Rattle.std.proofs.Common.{◌≡◌, ◌++◌, map, take}
use Rattle.smv_instances.specs.Plain.{plain_declaration}
use Rattle.smv_instances.specs.Entries.{of_declaration}
use Rattle.smv_instances.specs.Numbered.{plain_entry}
use Rattle.smv_instances.proofs.entries.push_declarations.Given as goal

abbrev pub invariant-loop-declaration : goal.invariant-loop-declaration
invariant-loop-declaration l = map plain_entry l.entries.items ≡ map plain_entry l.initial.entries.items ++ map of_declaration (map plain_declaration (take l.declaration-index l.declarations))
