use Rattle.std.proofs.Common.{ap}
use Rattle.proof_lines.proofs.LayerLines.{own_answer}
use Rattle.proof_lines.proofs.lines.layer_holds.Goals as goal

pub returns-clause-answer : goal.returns-clause-answer
returns-clause-answer g c =
    own_answer (g.S.StateSets.seen c.args.sets.now) (g.S.StateSets.seen c.lies_inside.new.sets) (g.S.StateSets.seen c.beyond.new.sets) c.args.constraints.now c.args.f.now c.args.out.now c.args.earlier.now c.args.layer.now
    c.layer.inside.set c.in_ok-beyond.beyond c.keeps-yes.result (ap (λ l. l.set) c.layer.view_is) c.requires.given c.requires.live c.lies_inside.ensures.call.pins (c.in_ok-lies_inside.ensures.answer.0 c.if-not-branch.false)
    c.in_ok-beyond.ensures.call.pins c.in_ok-beyond.ensures.set c.keeps-yes.ensures.answer
