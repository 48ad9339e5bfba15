use Rattle.std.proofs.Common.{length}
use Rattle.proof_text.proofs.FileFaults.{IsFileAt}
use Rattle.proof_text.proofs.file_reading.read_all.Given as goal

-- a file was read, and less is left with each of its blocks
abbrev pub invariant-loop-alloc : goal.invariant-loop-alloc
invariant-loop-alloc l = IsFileAt l.fn.model l.fn.cursor (record { order = l.order.items; blocks = l.blocks.items }) l.cursor

abbrev pub decreases-loop-alloc : goal.decreases-loop-alloc
decreases-loop-alloc l = length l.cursor.left
