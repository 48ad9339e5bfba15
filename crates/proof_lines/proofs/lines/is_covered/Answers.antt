use Rattle.proof_lines.proofs.ReachLines.{covered_answer}
use Rattle.proof_lines.proofs.lines.is_covered.Goals as goal

pub returns-clause-answer : goal.returns-clause-answer
returns-clause-answer g c =
    covered_answer (g.S.StateSets.seen c.args.sets.now) (g.S.StateSets.seen c.join_all.new.sets) c.args.set.now c.in_ok-all.all c.args.list.now c.lies_inside-yes.result c.requires.set
    c.in_ok-all.ensures.call.pins c.in_ok-all.ensures.set c.lies_inside-yes.ensures.answer
