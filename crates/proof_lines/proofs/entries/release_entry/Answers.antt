use Rattle.region_sets.specs.Sets.{region}
use Rattle.fair_rules.specs.Claims.{both}
use Rattle.proof_lines.proofs.EntryLines.{untils_at}
use Rattle.proof_lines.proofs.entries.release_entry.Goals as goal

pub returns-clause-tested : goal.returns-clause-tested
returns-clause-tested g c =
    let start = g.S.StateSets.seen c.args.sets.now in
    untils_at start (g.S.StateSets.seen c.release_goal.new.sets) c.args.last.now c.in_ok-goal.goal
    (both (region start c.args.first.now) (both (region start c.args.last.now) (region start c.args.frame.now.fair.now))) c.args.list.now c.args.line.now c.count.new.line c.untils-yes.result
    c.untils-yes.new.line c.requires.last c.requires.list c.in_ok-goal.ensures.call.pins c.in_ok-goal.ensures.set c.count.ensures c.untils-yes.ensures.tested
