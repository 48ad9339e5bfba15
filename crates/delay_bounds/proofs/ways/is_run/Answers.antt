use Rattle.std.proofs.Common.{◌≡◌, true, false, sym, ◌∙◌}
use Rattle.delay_bounds.proofs.ways.is_run.Goals as goal

pub returns-then-not-are_states : goal.returns-then-not-are_states
returns-then-not-are_states c = (
  (λ (e : false ≡ true). absurd cc),
  (λ run. sym c.if-not-are_states.true ∙ c.are_states.ensures.1 run.states),
)

pub returns : goal.returns
returns c = (
  (λ e. record { begins = c.is_there.ensures.0 c.if-not-is_there.false; states = c.are_states.ensures.0 c.if-not-are_states.false; steps = c.are_steps.ensures.0 e }),
  (λ run. c.are_steps.ensures.1 run.steps),
)
