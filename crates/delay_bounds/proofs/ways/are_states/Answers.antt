use Rattle.std.proofs.Common.{◌≡◌, true, false, sym, ◌∙◌, subst, arith, below_more}
use Rattle.kripke_model.specs.Step.{IsState}
use Rattle.delay_bounds.proofs.ways.are_states.Goals as goal

pub loop-i-preserved : goal.loop-i-preserved
loop-i-preserved c = below_more _ _ c.loop-i.invariant (subst (IsState c.args.model.now) c.state_at.ensures (c.is_state.ensures.0 c.if-not-is_state.false))

pub returns-then-not-is_state : goal.returns-then-not-is_state
returns-then-not-is_state c = (
  (λ (e : false ≡ true). absurd cc),
  (λ h. sym c.if-not-is_state.true ∙ c.is_state.ensures.1 (subst (IsState c.args.model.now) (sym c.state_at.ensures) (h c.loop-i.i (omega (arith, c.loop-i-test.true, c.loop-i.auto.i-end))))),
)
