use Rattle.std.proofs.Common.{take}
use Rattle.bit_encode.proofs.OrderMarks.{IsMarked}
use Rattle.bit_encode.proofs.orders.is_order.Given as goal

abbrev pub invariant-loop-x : goal.invariant-loop-x
invariant-loop-x l = IsMarked l.count (take l.x-index l.order) l.named.items
