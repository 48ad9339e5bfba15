use Rattle.std.proofs.lemmas.Result.{IfOk-weaker}
use Rattle.strong_fair.proofs.RowSteps.{stays_answer}
use Rattle.strong_fair.proofs.steps.stays.Goals as goal

pub returns-clause-answer : goal.returns-clause-answer
returns-clause-answer g c =
    IfOk-weaker c.has_no_step-yes.result _ _
    (λ truth answer. stays_answer (g.S.StateSets.seen c.args.sets.now) (g.S.StateSets.seen c.minus.new.self) c.args.here.now.slot c.args.left.now.slot c.in_ok-outside.outside.slot truth
    c.requires.here c.in_ok-outside.ensures.call.pins c.in_ok-outside.ensures.set answer)
    c.has_no_step-yes.ensures.answer
