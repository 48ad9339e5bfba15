use Rattle.proof_form.specs.Shape.{ComesBefore}
use Rattle.proof_form.proofs.Rising.{Neighbours}
use Rattle.proof_form.proofs.shapes.are_rising.Given as goal

-- the entries so far rise
abbrev pub invariant-loop-i : goal.invariant-loop-i
invariant-loop-i g l = Neighbours ComesBefore l.entries l.i
