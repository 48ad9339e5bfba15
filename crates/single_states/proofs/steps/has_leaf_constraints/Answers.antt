use Rattle.kripke_model.proofs.RuledLemmas.{constraints_evaluable}
use Rattle.single_states.proofs.FormulaLemmas.{leaf_constraints, constraint_leaves}
use Rattle.single_states.proofs.steps.has_leaf_constraints.Goals as goal

pub returns : goal.returns
returns c =
    let m = c.args.model.now in
    let formulas = c.fair.result.now in (
      (λ h. leaf_constraints m formulas c.fair.ensures c.rules_law.ensures.rules (c.are_leaves.ensures.0 h)),
      (λ h. c.are_leaves.ensures.1 (constraint_leaves m formulas c.fair.ensures (constraints_evaluable m c.rules_law.ensures.flat) h)),
    )
