use Rattle.std.proofs.Common.{[], ◌∷◌, refl, arith}
use Rattle.kripke_model.specs.Reading.{term_of}
use Rattle.region_sets.proofs.Calls.{then_call}
use Rattle.claim_sets.specs.declared.claims.Asks.TheVariants as asks
use Rattle.claim_sets.proofs.ClaimPins.{leaf_claimed}
use Rattle.claim_sets.proofs.claims.leaf_claim.Goals as goal

pub returns-clause-call : goal.returns-clause-call
returns-clause-call g c = c.pair.ensures.paired.call (g.S.StateSets.seen c.args.sets.now) 4 (then_call {xs = c.in_ok-plus.plus.slot ∷ []} 4 c.in_ok-plus.ensures.call c.minus-minus.ensures.call (omega arith) (omega arith))

pub returns-clause-claim : goal.returns-clause-claim
returns-clause-claim g c =
    leaf_claimed (g.S.StateSets.seen c.args.sets.now).over (term_of c.args.expr.now) (g.S.StateSets.seen c.args.sets.now) (g.S.StateSets.seen c.leaf.new.self) (g.S.StateSets.seen c.minus-minus.new.self) (g.S.StateSets.seen c.pair.new.sets)
    c.args.full.now.slot c.in_ok-plus.plus c.minus-minus.result asks.Nothing c.pair.result c.requires.full c.requires.live c.in_ok-plus.ensures.call.pins c.in_ok-plus.ensures.set
    c.minus-minus.ensures.call.pins c.minus-minus.ensures.set c.pair.ensures.paired refl
