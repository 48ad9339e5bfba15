use Rattle.std.proofs.Common.{length}
use Rattle.trace_files.proofs.FoundStates.{LaterRead}
use Rattle.trace_files.proofs.path_reading.read_later.Given as goal

-- these states are read
abbrev pub invariant-loop-alloc : goal.invariant-loop-alloc
invariant-loop-alloc l = LaterRead l.model l.initial.cursor l.states.items l.cursor

abbrev pub decreases-loop-alloc : goal.decreases-loop-alloc
decreases-loop-alloc l = length l.cursor.left
