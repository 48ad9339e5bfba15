use Rattle.proof_form.specs.Shape.{StandsBefore}
use Rattle.proof_form.proofs.Rising.{Neighbours}
use Rattle.proof_form.proofs.free_shapes.are_rising.Given as goal

-- the entries so far rise
abbrev pub invariant-loop-i : goal.invariant-loop-i
invariant-loop-i g l = Neighbours StandsBefore l.entries l.i
