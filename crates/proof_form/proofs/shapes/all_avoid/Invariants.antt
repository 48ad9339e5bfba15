use Rattle.std.proofs.Common.{ℕ, ◌<◌, get_or}
use Rattle.proof_form.specs.Shape.{Avoids}
use Rattle.proof_form.proofs.shapes.all_avoid.Given as goal

-- the layers so far avoid one
abbrev pub invariant-loop-layer : goal.invariant-loop-layer
invariant-loop-layer g l = (k : ℕ) → k < l.layer-index → (d : _) → Avoids l.count (get_or l.layers k d)
