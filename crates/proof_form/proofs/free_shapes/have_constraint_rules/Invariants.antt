use Rattle.std.proofs.Common.{ℕ, ◌<◌, get_or}
use Rattle.proof_form.specs.Shape.{HasConstraintRule}
use Rattle.proof_form.proofs.free_shapes.have_constraint_rules.Given as goal

-- the entries so far have rules of the constraints' formulas
abbrev pub invariant-loop-free : goal.invariant-loop-free
invariant-loop-free g l = (k : ℕ) → k < l.free-index → (d : _) → HasConstraintRule l.model (get_or l.entries k d)
