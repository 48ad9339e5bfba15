use Rattle.proof_lines.proofs.EntryLines.{goal_leads}
use Rattle.proof_lines.proofs.entries.leads_to_both.Goals as goal

pub returns-clause-answer : goal.returns-clause-answer
returns-clause-answer g c =
    goal_leads (g.S.StateSets.seen c.args.sets.now) (g.S.StateSets.seen c.meet.new.self) c.args.set.now c.args.a.now c.args.b.now c.in_ok-goal.goal c.leads-yes.result
    c.requires.set c.in_ok-goal.ensures.call.pins c.in_ok-goal.ensures.set c.leads-yes.ensures.answer
