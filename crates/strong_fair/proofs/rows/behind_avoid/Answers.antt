use Rattle.std.proofs.Common.{sym, subst, arith}
use Rattle.region_sets.specs.declared.pins.Pin.{Pin}
use Rattle.region_sets.specs.Sets.{IsLive}
use Rattle.fair_fixpoint.proofs.Lists.{slot_among}
use Rattle.strong_fair.proofs.rows.behind_avoid.Goals as goal

pub avoids-requires-clause-visit : goal.avoids-requires-clause-visit
avoids-requires-clause-visit g c =
    let visits = c.args.constraints.now.visits.items in
    subst (λ (q : Pin). IsLive (g.S.StateSets.seen c.args.sets.now) q.slot) (sym c.index.ensures)
    (c.requires.live _ (slot_among visits c.in-Some.place c.index.result.now (omega (arith, c.in-Some.ensures.1, c.len.ensures, c.args.constraints.now.visits.ok.0))))
