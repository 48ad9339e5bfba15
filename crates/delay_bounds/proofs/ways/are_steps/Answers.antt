use Rattle.std.proofs.Common.{◌≡◌, true, false, sym, ◌∙◌, arith}
use Rattle.delay_bounds.proofs.WayCalls.{step_here, steps_more}
use Rattle.delay_bounds.proofs.ways.are_steps.Goals as goal

pub returns-then-not-is_step : goal.returns-then-not-is_step
returns-then-not-is_step c = (
  (λ (e : false ≡ true). absurd cc),
  (λ h. sym c.if-not-is_step.true ∙ c.is_step.ensures.1
      (step_here c.args.model.now c.args.way.now c.loop-i.i c.state_at.result.now c.state_at-in-loop-i.result.now (omega (arith, c.loop-i.auto.i)) c.state_at.ensures c.state_at-in-loop-i.ensures
      (omega (arith, c.loop-i-test.true, c.loop-i.auto.i-end)) h)),
)

pub loop-i-preserved : goal.loop-i-preserved
loop-i-preserved c =
    steps_more c.args.model.now c.args.way.now c.loop-i.i c.state_at.result.now c.state_at-in-loop-i.result.now (omega (arith, c.loop-i.auto.i)) c.state_at.ensures c.state_at-in-loop-i.ensures c.loop-i.invariant (c.is_step.ensures.0 c.if-not-is_step.false)
