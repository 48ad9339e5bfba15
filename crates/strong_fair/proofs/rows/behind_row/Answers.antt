use Rattle.strong_fair.proofs.RowCalls.{row_left, still_leaves, still_made}
use Rattle.strong_fair.proofs.rows.behind_row.Goals as goal

pub behind_reason-rest-requires-clause-made : goal.behind_reason-rest-requires-clause-made
behind_reason-rest-requires-clause-made g c =
    still_made (g.S.StateSets.seen c.args.sets.now) (g.S.StateSets.seen c.meet.new.self) c.args.constraints.now.visits.items _ c.in_ok-here.ensures.call.pins c.requires.live c.requires.made

pub behind_reason-rest-requires-clause-leaves : goal.behind_reason-rest-requires-clause-leaves
behind_reason-rest-requires-clause-leaves g c =
    still_leaves (g.S.StateSets.seen c.args.sets.now) (g.S.StateSets.seen c.meet.new.self) c.args.pairs.now _ c.in_ok-here.ensures.call.pins c.requires.leaves

pub returns-clause-left : goal.returns-clause-left
returns-clause-left g c =
    row_left (g.S.StateSets.seen c.args.sets.now) (g.S.StateSets.seen c.meet.new.self) (g.S.StateSets.seen c.behind_reason-rest.new.sets) (g.S.StateSets.seen c.release.new.self)
    c.args.pairs.now c.args.left.now.slot c.in_ok-here.here.slot c.args.row.now.set c.args.row.now.reason c.requires.left c.in_ok-here.ensures.call.pins c.in_ok-here.ensures.set
    c.behind_reason-rest.result c.behind_reason-rest.ensures.call.pins c.release.ensures.pins c.behind_reason-rest.ensures.left
