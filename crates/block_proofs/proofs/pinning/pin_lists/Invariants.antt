use Rattle.std.proofs.Common.{◌≡◌, map, take}
use Rattle.proof_form.specs.Filling.{lists_of}
use Rattle.block_proofs.specs.PinsFor.{pin_for}
use Rattle.block_proofs.proofs.pinning.pin_lists.Given as goal

-- those before have their pins
abbrev pub invariant-loop-list : goal.invariant-loop-list
invariant-loop-list l = lists_of l.made.items ≡ map (map (pin_for l.table)) (lists_of (take l.list-index l.lists))
