use Rattle.proof_lines.proofs.StepLines.{step_answer}
use Rattle.proof_lines.proofs.lines.set_leads.Goals as goal

pub returns-clause-answer : goal.returns-clause-answer
returns-clause-answer g c =
    step_answer (g.S.StateSets.seen c.args.sets.now) (g.S.StateSets.seen c.lies_inside.new.sets) (g.S.StateSets.seen c.join.new.self) c.args.f.now c.args.first.now c.args.earlier.now c.args.set.now
    c.in_ok-goal.goal c.leads-yes.result c.requires.set c.lies_inside.ensures.call.pins (c.in_ok-lies_inside.ensures.answer.0 c.if-not-branch.false)
    c.in_ok-goal.ensures.call.pins c.in_ok-goal.ensures.set c.leads-yes.ensures.answer
