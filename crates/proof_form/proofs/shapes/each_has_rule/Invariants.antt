use Rattle.std.proofs.Common.{ℕ, ◌<◌, get_or}
use Rattle.kripke_model.specs.WellFormed.{ctl_of}
use Rattle.proof_form.specs.Shape.{HasRule}
use Rattle.proof_form.proofs.shapes.each_has_rule.Given as goal

-- the entries so far have rules of the formula
abbrev pub invariant-loop-entry : goal.invariant-loop-entry
invariant-loop-entry g l = (k : ℕ) → k < l.entry-index → (d : _) → HasRule (ctl_of l.formula) (get_or l.entries k d)
