use Rattle.std.proofs.lemmas.Result.{IfOk-weaker}
use Rattle.delay_bounds.proofs.TestCalls.{all_before_answer}
use Rattle.delay_bounds.proofs.testing.has_all_before.Goals as goal

pub returns-clause-answer : goal.returns-clause-answer
returns-clause-answer g c =
    IfOk-weaker c.has_before-yes.result _ _
    (λ truth answer. all_before_answer (g.S.StateSets.seen c.args.sets.now) (g.S.StateSets.seen c.full.new.self) c.in_ok-full.full.slot c.in_ok-full.ensures.call.pins c.args.back.now truth c.in_ok-full.ensures.set c.requires answer)
    c.has_before-yes.ensures.answer
