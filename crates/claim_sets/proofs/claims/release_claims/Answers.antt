use Rattle.std.proofs.Common.{◌≡◌, [], ◌∷◌, ◌++◌, ◌∙◌, ap, append_assoc, append-nil}
use Rattle.region_sets.proofs.Changes.{adds_after}
use Rattle.claim_sets.specs.Claimed.{claims_slots, claim_slots}
use Rattle.claim_sets.proofs.ClaimPins.{claims_append}
use Rattle.region_sets.proofs.Released.{next_live, next_once}
use Rattle.claim_sets.proofs.claims.release_claims.Goals as goal

pub release-requires-clause-live : goal.release-requires-clause-live
release-requires-clause-live g c =
    let i = c.loop-claim.invariant in
    let popped : claims_slots c.loop-claim.claims.items ≡ claims_slots c.pop.new.self.items ++ claim_slots c.in-Some.claim = ap claims_slots c.in-Some.ensures.items ∙ claims_append c.pop.new.self.items (c.in-Some.claim ∷ []) ∙ ap (λ ks. claims_slots c.pop.new.self.items ++ ks) (append-nil (claim_slots c.in-Some.claim)) in
    next_live (g.S.StateSets.seen c.args.sets.now) (g.S.StateSets.seen c.loop-claim.sets) (claims_slots c.args.claims.items) (claims_slots c.pop.new.self.items) (claim_slots c.in-Some.claim) i.0
    c.requires.live c.requires.once (i.1 ∙ ap (λ ks. ks ++ i.0) popped) i.2

pub release-requires-clause-once : goal.release-requires-clause-once
release-requires-clause-once g c =
    let i = c.loop-claim.invariant in
    let popped : claims_slots c.loop-claim.claims.items ≡ claims_slots c.pop.new.self.items ++ claim_slots c.in-Some.claim = ap claims_slots c.in-Some.ensures.items ∙ claims_append c.pop.new.self.items (c.in-Some.claim ∷ []) ∙ ap (λ ks. claims_slots c.pop.new.self.items ++ ks) (append-nil (claim_slots c.in-Some.claim)) in
    next_once (claims_slots c.args.claims.items) (claims_slots c.pop.new.self.items) (claim_slots c.in-Some.claim) i.0 c.requires.once (i.1 ∙ ap (λ ks. ks ++ i.0) popped)

pub loop-claim-preserved : goal.loop-claim-preserved
loop-claim-preserved g c =
    let i = c.loop-claim.invariant in
    let popped : claims_slots c.loop-claim.claims.items ≡ claims_slots c.pop.new.self.items ++ claim_slots c.in-Some.claim = ap claims_slots c.in-Some.ensures.items ∙ claims_append c.pop.new.self.items (c.in-Some.claim ∷ []) ∙ ap (λ ks. claims_slots c.pop.new.self.items ++ ks) (append-nil (claim_slots c.in-Some.claim)) in (
      claim_slots c.in-Some.claim ++ i.0,
      i.1 ∙ ap (λ ks. ks ++ i.0) popped ∙ append_assoc (claims_slots c.pop.new.self.items) (claim_slots c.in-Some.claim) i.0,
      adds_after c.release.ensures.pins i.2,
      c.release.ensures.fulls ∙ i.3,
      c.release.ensures.products ∙ i.4,
    )
