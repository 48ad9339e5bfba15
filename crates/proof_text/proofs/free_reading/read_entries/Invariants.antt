use Rattle.std.proofs.Common.{length}
use Rattle.proof_text.proofs.ReadFree.{FreeEntriesRead}
use Rattle.proof_text.proofs.free_reading.read_entries.Given as goal

-- these entries for constraints are read
abbrev pub invariant-loop-alloc : goal.invariant-loop-alloc
invariant-loop-alloc l = FreeEntriesRead l.model l.most l.initial.cursor l.entries.items l.cursor

abbrev pub decreases-loop-alloc : goal.decreases-loop-alloc
decreases-loop-alloc l = length l.cursor.left
