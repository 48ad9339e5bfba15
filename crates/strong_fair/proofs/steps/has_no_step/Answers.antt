use Rattle.strong_fair.proofs.RowSteps.{no_step_answer}
use Rattle.strong_fair.proofs.steps.has_no_step.Goals as goal

pub returns-clause-answer : goal.returns-clause-answer
returns-clause-answer g c =
    no_step_answer (g.S.StateSets.seen c.args.sets.now) (g.S.StateSets.seen c.before-2.new.sets) c.args.from.now.slot c.args.into.now.slot c.in_ok-leading.leading.slot c.is_empty-none.result
    (g.met.S.StateSets.inside c.args.sets.now) c.in_ok-leading.ensures.set c.is_empty-none.ensures.yes c.is_empty-none.ensures.no
