use Rattle.std.proofs.Common.{ℕ, ◌<◌, get_or}
use Rattle.proof_form.specs.Shape.{FitsConstraints}
use Rattle.proof_form.proofs.shapes.are_fitting.Given as goal

-- the entries so far fit
abbrev pub invariant-loop-entry : goal.invariant-loop-entry
invariant-loop-entry g l = (k : ℕ) → k < l.entry-index → (d : _) → FitsConstraints l.count (get_or l.entries k d).rule
