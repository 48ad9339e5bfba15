use Rattle.std.proofs.Common.{ℕ, ◌<◌, get_or}
use Rattle.std.specs.Prelude.{IsTrue}
use Rattle.kripke_model.specs.declared.expressions.Formula.{Formula}
use Rattle.kripke_model.specs.WellFormed.{ctl_of}
use Rattle.kripke_model.specs.Leaves.{is_leaf}
use Rattle.single_states.proofs.steps.are_leaves.Given as goal

-- the formulas so far are leaves
abbrev pub invariant-loop-formula : goal.invariant-loop-formula
invariant-loop-formula l = (k : ℕ) → k < l.formula-index → (d : Formula) → IsTrue (is_leaf (ctl_of (get_or l.formulas k d)))
