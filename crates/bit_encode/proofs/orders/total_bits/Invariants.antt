use Rattle.std.proofs.Common.{◌≡◌, take}
use Rattle.bit_encode.specs.Code.{bit_count}
use Rattle.bit_encode.specs.Layouts.{counted}
use Rattle.bit_encode.proofs.orders.total_bits.Given as goal

abbrev pub invariant-loop-domain : goal.invariant-loop-domain
invariant-loop-domain l = l.total ≡ counted (bit_count (take l.domain-index l.domains))
