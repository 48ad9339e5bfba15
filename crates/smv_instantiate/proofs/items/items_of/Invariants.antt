use Rattle.std.proofs.Common.{◌≡◌, map, flat_map, take}
use Rattle.smv_instances.specs.Plain.{plain_section}
use Rattle.smv_instantiate.specs.Flattens.{section_items}
use Rattle.smv_instantiate.specs.Items.{plain_item}
use Rattle.smv_instantiate.proofs.items.items_of.Given as goal

-- the items of the sections so far
abbrev pub invariant-loop-section : goal.invariant-loop-section
invariant-loop-section l = map plain_item l.items.items ≡ flat_map section_items (map plain_section (take l.section-index l.section-items))
