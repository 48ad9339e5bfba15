use Rattle.proof_lines.proofs.EntryLines.{stay_answer}
use Rattle.proof_lines.proofs.entries.stays_until.Goals as goal

pub returns-clause-answer : goal.returns-clause-answer
returns-clause-answer g c =
    stay_answer (g.S.StateSets.seen c.args.sets.now) (g.S.StateSets.seen c.lies_inside.new.sets) (g.S.StateSets.seen c.minus.new.self) c.args.first.now c.args.last.now c.args.set.now
    c.in_ok-left.left c.args.nonfair.now c.keeps_to_either-yes.result c.requires.set c.requires.nonfair c.lies_inside.ensures.call.pins (c.in_ok-lies_inside.ensures.answer.0 c.if-not-branch.false)
    c.in_ok-left.ensures.call.pins c.in_ok-left.ensures.set c.keeps_to_either-yes.ensures.answer
