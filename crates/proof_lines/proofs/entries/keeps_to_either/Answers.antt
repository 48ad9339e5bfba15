use Rattle.proof_lines.proofs.EntryLines.{goal_keeps}
use Rattle.proof_lines.proofs.entries.keeps_to_either.Goals as goal

pub returns-clause-answer : goal.returns-clause-answer
returns-clause-answer g c =
    goal_keeps (g.S.StateSets.seen c.args.sets.now) (g.S.StateSets.seen c.join.new.self) c.args.set.now c.args.a.now c.args.b.now c.in_ok-goal.goal c.keeps-yes.result
    c.requires.set c.in_ok-goal.ensures.call.pins c.in_ok-goal.ensures.set c.keeps-yes.ensures.answer
