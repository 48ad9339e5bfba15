use Rattle.bit_encode.proofs.PlaceLemmas.{IsPlaced}
use Rattle.bit_encode.proofs.orders.first_bits.Given as goal

abbrev pub invariant-loop-x : goal.invariant-loop-x
invariant-loop-x l = IsPlaced l.domains l.order l.x-index l.next l.firsts.items
