use Rattle.std.proofs.Common.{◌≡◌, map, take}
use Rattle.block_proofs.specs.PinsFor.{pin_for}
use Rattle.block_proofs.proofs.pinning.pin_list.Given as goal

-- those before have their pins
abbrev pub invariant-loop-number : goal.invariant-loop-number
invariant-loop-number l = l.made.items ≡ map (pin_for l.table) (take l.number-index l.list)
