use Rattle.std.proofs.Common.{length}
use Rattle.proof_text.proofs.NamedOrders.{IsNamed}
use Rattle.proof_text.proofs.order_reading.order_named.Given as goal

-- the words that were taken name variables, each of which is marked
abbrev pub invariant-loop-name : goal.invariant-loop-name
invariant-loop-name l = IsNamed l.model l.initial.words l.words l.order.items l.marks.items

abbrev pub decreases-loop-name : goal.decreases-loop-name
decreases-loop-name l = length l.words
