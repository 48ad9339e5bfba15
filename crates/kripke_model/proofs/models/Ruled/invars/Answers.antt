use Rattle.std.proofs.Common.{◌≡◌, List, rules, subst, sym}
use Rattle.std.specs.Prelude.{All}
use Rattle.kripke_model.specs.System.{System, Condition}
use Rattle.kripke_model.specs.Evaluable.{IsEvaluable}
use Rattle.kripke_model.proofs.RuledLemmas.{invars_evaluable}
use Rattle.kripke_model.proofs.models.Ruled.invars.Goals as goal

pub returns-clause-evaluable : goal.returns-clause-evaluable
returns-clause-evaluable c =
    let same : c.deref.result.now ≡ c.args.self.now.invars = search rules in
    let known = subst (λ (m : System). All (λ (d : Condition). IsEvaluable m d.expr) m.invars) c.self.view_is (invars_evaluable c.self.inside.flat c.self.invariant.flat c.self.invariant.formulas_allowed) in
    subst (λ (xs : List Condition). All (λ (d : Condition). IsEvaluable c.args.self.now d.expr) xs) (sym same) known
