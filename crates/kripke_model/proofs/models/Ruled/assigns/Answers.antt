use Rattle.std.proofs.Common.{◌≡◌, List, rules, subst, sym}
use Rattle.std.specs.Prelude.{All}
use Rattle.kripke_model.specs.System.{System, Assignment}
use Rattle.kripke_model.specs.Evaluable.{IsEvaluable}
use Rattle.kripke_model.proofs.RuledLemmas.{rights_evaluable}
use Rattle.kripke_model.proofs.models.Ruled.assigns.Goals as goal

pub returns-clause-evaluable : goal.returns-clause-evaluable
returns-clause-evaluable c =
    let same : c.deref.result.now ≡ c.args.self.now.assigns = search rules in
    let known = subst (λ (m : System). All (λ (a : Assignment). IsEvaluable m a.right) m.assigns) c.self.view_is (rights_evaluable c.self.inside.flat c.self.invariant.flat c.self.invariant.formulas_allowed) in
    subst (λ (xs : List Assignment). All (λ (a : Assignment). IsEvaluable c.args.self.now a.right) xs) (sym same) known
