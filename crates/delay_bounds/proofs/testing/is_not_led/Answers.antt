use Rattle.std.proofs.lemmas.Result.{IfOk-weaker}
use Rattle.delay_bounds.proofs.TestCalls.{spread_back, with_first}
use Rattle.delay_bounds.proofs.testing.is_not_led.Goals as goal

pub returns-clause-answer : goal.returns-clause-answer
returns-clause-answer g c =
    IfOk-weaker c.is_spread_back.result _ _
    (λ b answer. with_first b (c.in_ok-keeps_from.ensures.answer.0 c.if-not-branch.false)
    (spread_back (g.S.StateSets.seen c.args.sets.now) (g.S.StateSets.seen c.keeps_from.new.sets) c.in_ok-keeps_from.ensures.call.pins b c.args.to.now c.args.back.now answer))
    c.is_spread_back.ensures.answer
