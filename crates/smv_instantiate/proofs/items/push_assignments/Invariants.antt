use Rattle.std.proofs.Common.{◌≡◌, ◌++◌, map, take}
use Rattle.smv_instantiate.specs.Flattens.{Item}
use Rattle.smv_instantiate.specs.Items.{plain_assigned, plain_item}
use Rattle.smv_instantiate.proofs.items.push_assignments.Given as goal

-- the assignments so far
abbrev pub invariant-loop-assignment : goal.invariant-loop-assignment
invariant-loop-assignment l = map plain_item l.items.items ≡ map plain_item l.initial.items.items ++ map Item.Assigns (map plain_assigned (take l.assignment-index l.assignments))
