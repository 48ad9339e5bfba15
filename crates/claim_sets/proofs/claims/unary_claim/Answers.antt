use Rattle.claim_sets.specs.Claimed.{one_asks}
use Rattle.claim_sets.proofs.ClaimPins.{paired_call, unary_view}
use Rattle.claim_sets.proofs.claims.unary_claim.Goals as goal

pub returns-clause-call : goal.returns-clause-call
returns-clause-call g c =
    paired_call (g.S.StateSets.seen c.args.sets.now) (g.S.StateSets.seen c.unary_set.new.sets) (g.S.StateSets.seen c.unary_set-minus.new.sets) (g.S.StateSets.seen c.pair.new.sets) c.in_ok-plus.plus c.unary_set-minus.result
    c.unary_asks.result c.pair.result c.in_ok-plus.ensures.call c.unary_set-minus.ensures.call c.pair.ensures.paired

pub returns-clause-claim : goal.returns-clause-claim
returns-clause-claim g c =
    unary_view c.args.ground.now c.args.kind c.args.number c.args.f.now (g.S.StateSets.seen c.args.sets.now) (g.S.StateSets.seen c.unary_set.new.sets) (g.S.StateSets.seen c.unary_set-minus.new.sets) (g.S.StateSets.seen c.pair.new.sets)
    c.in_ok-plus.plus c.unary_set-minus.result c.unary_asks.result (one_asks c.args.kind) c.pair.result c.requires.ground c.requires.f c.in_ok-plus.ensures.call c.in_ok-plus.ensures.set
    c.unary_set-minus.ensures.call.pins c.unary_set-minus.ensures.set c.pair.ensures.paired c.unary_asks.ensures
