use Rattle.std.proofs.Common.{take}
use Rattle.block_proofs.specs.Marks.{AreMarked}
use Rattle.block_proofs.proofs.marking.mark_list.Given as goal

-- those before are marked
abbrev pub invariant-loop-number : goal.invariant-loop-number
invariant-loop-number l = AreMarked (take l.number-index l.list) l.initial.marks l.marks
