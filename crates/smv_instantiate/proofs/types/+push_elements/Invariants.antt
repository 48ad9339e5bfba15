use Rattle.std.proofs.Common.{◌≡◌, ◌-◌, ◌<◌, ◌++◌}
use Rattle.std.specs.Prelude.{flat_map}
use Rattle.smv_instances.specs.Plain.{plain_type}
use Rattle.smv_instances.specs.Instances.{rising, indexed, element_names}
use Rattle.smv_instantiate.proofs.types.+push_elements.Given as goal

-- the names of the elements up to this index, and none where the high end lies below the low one
abbrev pub invariant-loop-index : goal.invariant-loop-index
invariant-loop-index l = (l.names.items ≡ l.initial.names.items ++ flat_map (λ i. element_names (plain_type l.element.value) (indexed l.fn.name i)) (rising l.initial.index (l.index - l.initial.index))) × (l.index-end < l.initial.index → l.index ≡ l.initial.index)
