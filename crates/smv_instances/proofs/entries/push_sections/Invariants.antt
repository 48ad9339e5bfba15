use Rattle.std.proofs.Common.{◌≡◌, ◌++◌, map, flat_map, take}
use Rattle.smv_instances.specs.Plain.{plain_section}
use Rattle.smv_instances.specs.Entries.{of_section}
use Rattle.smv_instances.specs.Numbered.{plain_entry}
use Rattle.smv_instances.proofs.entries.push_sections.Given as goal

abbrev pub invariant-loop-section : goal.invariant-loop-section
invariant-loop-section l = map plain_entry l.entries.items ≡ map plain_entry l.initial.entries.items ++ flat_map of_section (map plain_section (take l.section-index l.sections))
