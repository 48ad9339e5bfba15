use Rattle.region_sets.proofs.Changes.{stays_live}
use Rattle.strong_fair.specs.declared.certificate.Reason.TheVariants as reasons
use Rattle.strong_fair.specs.declared.certificate.Row as declared
use Rattle.strong_fair.proofs.RowCalls.{still_leaves, still_made}
use Rattle.strong_fair.proofs.RowLists.{row_among}
use Rattle.strong_fair.proofs.Taking.{taking_more, taking_stops}
use Rattle.strong_fair.proofs.rows.rows_hold.Goals as goal

abbrev first : declared.Row
first = record { set = record { slot = 0 }; reason = reasons.Dead }

pub behind_row-requires-clause-made : goal.behind_row-requires-clause-made
behind_row-requires-clause-made g c =
    still_made (g.S.StateSets.seen c.args.sets.now) (g.S.StateSets.seen c.loop-row.sets) c.args.constraints.now.visits.items _ c.loop-row.invariant.call.pins c.requires.live c.requires.made

pub behind_row-requires-clause-leaves : goal.behind_row-requires-clause-leaves
behind_row-requires-clause-leaves g c =
    still_leaves (g.S.StateSets.seen c.args.sets.now) (g.S.StateSets.seen c.loop-row.sets) c.args.pairs.now _ c.loop-row.invariant.call.pins c.requires.leaves

pub behind_row-requires-clause-set : goal.behind_row-requires-clause-set
behind_row-requires-clause-set g c =
    stays_live c.loop-row.invariant.call.pins _ (c.requires.rows _ (row_among c.args.rows.now c.loop-row.row-index first c.loop-row-test.true))

pub returns-in-Ok-None-clause-answer : goal.returns-in-Ok-None-clause-answer
returns-in-Ok-None-clause-answer g c =
    taking_stops (g.S.StateSets.seen c.args.sets.now) c.args.pairs.now c.args.inside.now.slot c.args.rows.now (g.S.StateSets.seen c.loop-row.sets) c.loop-row.left.slot c.loop-row.row-index first
    c.loop-row.invariant c.requires.rows c.loop-row-test.true (rw c.in-Ok-None.field-0-is at c.in-Ok-None.ensures.left)

pub loop-row-preserved : goal.loop-row-preserved
loop-row-preserved g c =
    let call = rw c.in-Ok-Some.field-0-is at c.in-Ok-Some.ensures.call in
    let left = rw c.in-Ok-Some.field-0-is at c.in-Ok-Some.ensures.left in
    taking_more (g.S.StateSets.seen c.args.sets.now) c.args.pairs.now c.args.inside.now.slot c.args.rows.now (g.S.StateSets.seen c.loop-row.sets) c.loop-row.left.slot c.loop-row.row-index first
    c.loop-row.invariant c.requires.rows c.loop-row-test.true (g.S.StateSets.seen c.behind_row.new.sets) (g.S.StateSets.seen c.release.new.self) c.in-Ok-Some.rest.slot
    left.0 left.1 call c.release.ensures.pins c.release.ensures.fulls
