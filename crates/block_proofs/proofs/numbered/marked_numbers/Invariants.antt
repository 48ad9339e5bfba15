use Rattle.block_proofs.specs.Numbered.{AreNumberedBelow}
use Rattle.block_proofs.proofs.numbered.marked_numbers.Given as goal

-- those before are in the list
abbrev pub invariant-loop-number : goal.invariant-loop-number
invariant-loop-number l = AreNumberedBelow l.marks l.number l.list
