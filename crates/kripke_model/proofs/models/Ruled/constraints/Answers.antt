use Rattle.std.proofs.Common.{◌≡◌, List, false, rules, subst, sym}
use Rattle.std.specs.Prelude.{All}
use Rattle.kripke_model.specs.System.{System, Condition}
use Rattle.kripke_model.specs.Evaluable.{IsEvaluable}
use Rattle.kripke_model.specs.Term.{has_path_operator}
use Rattle.kripke_model.proofs.RuledLemmas.{constraints_evaluable}
use Rattle.kripke_model.proofs.models.Ruled.constraints.Goals as goal

pub returns-clause-evaluable : goal.returns-clause-evaluable
returns-clause-evaluable c =
    let same : c.deref.result.now ≡ c.args.self.now.constraints = search rules in
    let known = subst (λ (m : System). All (λ (d : Condition). has_path_operator d.expr ≡ false → IsEvaluable m d.expr) m.constraints) c.self.view_is (constraints_evaluable c.self.inside.flat c.self.invariant.flat) in
    subst (λ (xs : List Condition). All (λ (d : Condition). has_path_operator d.expr ≡ false → IsEvaluable c.args.self.now d.expr) xs) (sym same) known
