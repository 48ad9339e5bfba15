use Rattle.std.proofs.Common.{◌≡◌, ◌≤◌, ◌-◌, length}
use Rattle.answer_memo.specs.Slots.{IsSpread}
use Rattle.answer_memo.proofs.memo.spread.Given as goal

abbrev pub invariant-loop-i : goal.invariant-loop-i
invariant-loop-i g l = (l.i ≤ length l.from) × (length l.to.items ≡ length l.initial.to.items) × IsSpread g.K.Hash.hash_input l.from l.to.items l.filled

abbrev pub decreases-loop-i : goal.decreases-loop-i
decreases-loop-i g l = length l.from - l.i
