use Rattle.std.proofs.Common.{◌≡◌, take}
use Rattle.std.specs.List.{flat_map}
use Rattle.bit_encode.specs.Code.{value_code}
use Rattle.bit_encode.proofs.layout.Layout.encode.Given as goal

abbrev pub invariant-loop-x : goal.invariant-loop-x
invariant-loop-x l = l.bits.items ≡ flat_map (value_code l.self-inside.domains.items l.s) (take l.x-index l.self-inside.order.items)
