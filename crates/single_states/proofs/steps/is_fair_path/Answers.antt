use Rattle.std.proofs.Common.{◌≡◌, List, false, subst, sym}
use Rattle.std.specs.Prelude.{All, Any}
use Rattle.kripke_model.specs.Evaluable.{IsEvaluable}
use Rattle.kripke_model.specs.Evaluation.{Holds}
use Rattle.kripke_model.specs.System.{State, Condition}
use Rattle.kripke_model.specs.Term.{has_path_operator}
use Rattle.kripke_model.proofs.FairLemmas.{met_by_visits, visits_by_met}
use Rattle.single_states.proofs.steps.is_fair_path.Goals as goal

constraints_evaluable : (cs : List Condition) (IsKnown : Condition → Type 0) → All (λ a. has_path_operator a.expr ≡ false → IsKnown a) cs → All (λ a. has_path_operator a.expr ≡ false) cs → All IsKnown cs
constraints_evaluable cs IsKnown known leaves k d below = known k d below (leaves k d below)

pub returns-then-is_path : goal.returns-then-is_path
returns-then-is_path c =
    let evaluable = constraints_evaluable c.args.model.now.constraints (λ a. IsEvaluable c.args.model.now a.expr) (subst (λ (cs : List Condition). All (λ a. has_path_operator a.expr ≡ false → IsEvaluable c.args.model.now a.expr) cs) c.constraints.ensures.items c.constraints.ensures.evaluable) c.requires.leaves in
    let V : List State → List Condition → Type 0 = λ ss cs. All (λ a. Any (λ s. Holds c.args.model.now a.expr s s) ss) cs in (
      (λ h. record { path = c.is_path.ensures.0 c.if-is_path.true; met = met_by_visits c.args.model.now c.args.lasso.now.cycle c.args.model.now.constraints evaluable (subst (λ ss. V ss c.args.model.now.constraints) c.cycle.ensures (subst (λ cs. V c.cycle.result.now cs) c.constraints.ensures.items (c.all_visited.ensures.0 h))) }),
      (λ h. c.all_visited.ensures.1 (subst (λ cs. V c.cycle.result.now cs) (sym c.constraints.ensures.items) (subst (λ ss. V ss c.args.model.now.constraints) (sym c.cycle.ensures) (visits_by_met c.args.model.now c.args.lasso.now.cycle c.args.model.now.constraints evaluable h.met)))),
    )
