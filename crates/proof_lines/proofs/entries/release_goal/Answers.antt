use Rattle.proof_lines.proofs.EntryLines.{release_goal_is}
use Rattle.proof_lines.proofs.entries.release_goal.Goals as goal

pub returns-clause-set : goal.returns-clause-set
returns-clause-set g c =
    release_goal_is (g.S.StateSets.seen c.args.sets.now) (g.S.StateSets.seen c.meet.new.self) (g.S.StateSets.seen c.meet-goal.new.self) (g.S.StateSets.seen c.release.new.self)
    c.args.fair.now c.args.first.now c.args.last.now c.in_ok-begun.begun c.meet-goal.result c.requires.first c.in_ok-begun.ensures.call.pins c.in_ok-begun.ensures.set
    c.meet-goal.ensures.call.pins c.meet-goal.ensures.set c.release.ensures.pins
