use Rattle.claim_sets.specs.Claimed.{two_asks}
use Rattle.claim_sets.proofs.ClaimPins.{paired_call, binary_view}
use Rattle.claim_sets.proofs.claims.binary_claim.Goals as goal

pub returns-clause-call : goal.returns-clause-call
returns-clause-call g c =
    paired_call (g.S.StateSets.seen c.args.sets.now) (g.S.StateSets.seen c.binary_set.new.sets) (g.S.StateSets.seen c.binary_set-minus.new.sets) (g.S.StateSets.seen c.pair.new.sets) c.in_ok-plus.plus c.binary_set-minus.result
    c.binary_asks.result c.pair.result c.in_ok-plus.ensures.call c.binary_set-minus.ensures.call c.pair.ensures.paired

pub returns-clause-claim : goal.returns-clause-claim
returns-clause-claim g c =
    binary_view c.args.ground.now c.args.kind c.args.number c.args.f.now c.args.g.now (g.S.StateSets.seen c.args.sets.now) (g.S.StateSets.seen c.binary_set.new.sets) (g.S.StateSets.seen c.binary_set-minus.new.sets) (g.S.StateSets.seen c.pair.new.sets)
    c.in_ok-plus.plus c.binary_set-minus.result c.binary_asks.result (two_asks c.args.kind c.args.last) c.pair.result c.requires.ground c.requires.f c.requires.g c.in_ok-plus.ensures.call c.in_ok-plus.ensures.set
    c.binary_set-minus.ensures.call.pins c.binary_set-minus.ensures.set c.pair.ensures.paired c.binary_asks.ensures
