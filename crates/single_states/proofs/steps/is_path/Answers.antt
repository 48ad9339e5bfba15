use Rattle.std.proofs.Common.{◌≡◌, ◌+◌, true, false, subst, sym, ◌∙◌, below_more, arith}
use Rattle.kripke_model.specs.System.{State}
use Rattle.kripke_model.specs.Step.{IsState, Step}
use Rattle.kripke_model.specs.Path.{at}
use Rattle.single_states.proofs.steps.is_path.Goals as goal

pub loop-n-preserved : goal.loop-n-preserved
loop-n-preserved c =
    below_more _ _ c.loop-n.invariant (subst (λ (s : State). IsState c.args.model.now s) c.at.ensures (c.is_state.ensures.0 c.if-not-is_state.false))

pub loop-n-2-preserved : goal.loop-n-2-preserved
loop-n-2-preserved c =
    below_more _ _ c.loop-n-2.invariant
    (subst (λ (s : State). Step c.args.model.now s (at c.args.lasso.now (c.loop-n-2.n + 1))) c.at-in-loop-n-2.ensures
    (subst (λ (s : State). Step c.args.model.now c.at-in-loop-n-2.result.now s) c.at-in-loop-n-2-2.ensures (c.is_step.ensures.0 c.if-not-is_step.false)))

pub returns-then-not-is_step : goal.returns-then-not-is_step
returns-then-not-is_step c = (
  (λ (e : false ≡ true). absurd cc),
  (λ h. sym c.if-not-is_step.true ∙ c.is_step.ensures.1
      (subst (λ (s : State). Step c.args.model.now s c.at-in-loop-n-2-2.result.now) (sym c.at-in-loop-n-2.ensures)
      (subst (λ (s : State). Step c.args.model.now (at c.args.lasso.now c.loop-n-2.n) s) (sym c.at-in-loop-n-2-2.ensures) (h.steps c.loop-n-2.n (omega arith))))),
)
