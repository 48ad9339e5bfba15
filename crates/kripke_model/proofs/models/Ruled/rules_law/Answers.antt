use Rattle.std.proofs.Common.{subst}
use Rattle.kripke_model.specs.Flat.{IsFlat}
use Rattle.kripke_model.specs.Evaluable.{IsEvaluable}
use Rattle.kripke_model.specs.Leaves.{IsModelLeaf}
use Rattle.kripke_model.specs.Static.{KeepsRules}
use Rattle.kripke_model.specs.System.{System}
use Rattle.kripke_model.specs.Term.{Term}
use Rattle.kripke_model.proofs.FirstLemmas.{silent_then}
use Rattle.kripke_model.proofs.LeafLemmas.{leaf_evaluable}
use Rattle.kripke_model.proofs.models.Ruled.rules_law.Goals as goal

pub returns-clause-flat : goal.returns-clause-flat
returns-clause-flat c = subst IsFlat c.self.view_is c.self.invariant.flat

pub returns-clause-rules : goal.returns-clause-rules
returns-clause-rules c =
    let i = c.self.invariant in
    subst KeepsRules c.self.view_is (silent_then i.assigned_once (silent_then i.current_alone (silent_then i.acyclic (silent_then i.next_allowed i.formulas_allowed))))

pub returns-clause-inhabited : goal.returns-clause-inhabited
returns-clause-inhabited c k d below = ((subst IsFlat c.self.view_is c.self.invariant.flat).types k d below).some_value

pub returns-clause-distinct : goal.returns-clause-distinct
returns-clause-distinct c k d below = ((subst IsFlat c.self.view_is c.self.invariant.flat).types k d below).distinct

pub returns-clause-leaves : goal.returns-clause-leaves
returns-clause-leaves c =
    let i = c.self.invariant in
    subst (λ (m : System). (t : Term) → IsModelLeaf m t → IsEvaluable m t) c.self.view_is (leaf_evaluable c.self.inside.flat i.flat i.formulas_allowed)
