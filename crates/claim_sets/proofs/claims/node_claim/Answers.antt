use Rattle.std.proofs.Common.{ℕ, ◌-◌, ◌<◌, ◌≤◌, length, get_or, refl, ap, subst, arith}
use Rattle.proof_form.specs.declared.preorder.Node.{Node}
use Rattle.claim_sets.specs.declared.claims.Asks.TheVariants as asks
use Rattle.claim_sets.specs.declared.claims.Claim.{Claim}
use Rattle.proof_form.specs.Preorder.{node_view}
use Rattle.claim_sets.specs.Claimed.{IsPlaced}
use Rattle.claim_sets.proofs.ClaimPins.{claim_live, default_moves, two_comes}
use Rattle.claim_sets.proofs.claims.node_claim.Goals as goal

some_one : (n : ℕ) → 1 ≤ n → n - 1 < n
some_one n h = omega (arith, h)

abbrev no_claim : Claim
no_claim = record { plus = record { slot = 0 }; minus = record { slot = 0 }; asks = asks.Nothing }

pub unary_claim-requires-clause-f : goal.unary_claim-requires-clause-f
unary_claim-requires-clause-f g c = claim_live (g.S.StateSets.seen c.args.sets.now) c.args.claims.now (length c.args.claims.now - 1) no_claim
    (some_one (length c.args.claims.now) (subst (λ (n : Node). IsPlaced (g.S.StateSets.seen c.args.sets.now).over (length c.args.claims.now) (node_view n)) c.in-One.is c.requires.placed)) c.requires.live

pub binary_claim-requires-clause-f : goal.binary_claim-requires-clause-f
binary_claim-requires-clause-f g c = claim_live (g.S.StateSets.seen c.args.sets.now) c.args.claims.now (length c.args.claims.now - 1) no_claim
    (some_one (length c.args.claims.now) (subst (λ (n : Node). IsPlaced (g.S.StateSets.seen c.args.sets.now).over (length c.args.claims.now) (node_view n)) c.in-Two.is c.requires.placed).0) c.requires.live

pub binary_claim-requires-clause-g : goal.binary_claim-requires-clause-g
binary_claim-requires-clause-g g c = claim_live (g.S.StateSets.seen c.args.sets.now) c.args.claims.now c.in-Two.last no_claim
    (subst (λ (n : Node). IsPlaced (g.S.StateSets.seen c.args.sets.now).over (length c.args.claims.now) (node_view n)) c.in-Two.is c.requires.placed).1 c.requires.live

pub returns-in-Two-clause-claim : goal.returns-in-Two-clause-claim
returns-in-Two-clause-claim g c =
    let placed = subst (λ (n : Node). IsPlaced (g.S.StateSets.seen c.args.sets.now).over (length c.args.claims.now) (node_view n)) c.in-Two.is c.requires.placed in
    two_comes (g.S.StateSets.seen c.args.sets.now).over (g.S.StateSets.seen c.args.sets.now) (g.S.StateSets.seen c.binary_claim.new.sets) c.args.ground.now c.args.number c.args.claims.now c.binary_claim.result
    c.in-Two.kind c.in-Two.last (node_view c.args.node.now) (get_or c.args.claims.now (length c.args.claims.now - 1) no_claim) (get_or c.args.claims.now c.in-Two.last no_claim) (length c.args.claims.now - 1)
    (ap node_view c.in-Two.is) refl (some_one (length c.args.claims.now) placed.0) placed.1
    (default_moves c.args.claims.now (length c.args.claims.now - 1) no_claim (some_one (length c.args.claims.now) placed.0)) (default_moves c.args.claims.now c.in-Two.last no_claim placed.1) c.binary_claim.ensures.claim
