use Rattle.std.proofs.Common.{ℕ, ◌<◌, get_or}
use Rattle.proof_form.specs.Shape.{FitsConstraints}
use Rattle.proof_form.proofs.free_shapes.are_fitting.Given as goal

-- the entries so far fit
abbrev pub invariant-loop-free : goal.invariant-loop-free
invariant-loop-free g l = (k : ℕ) → k < l.free-index → (d : _) → FitsConstraints 1 (get_or l.entries k d).entry.rule
