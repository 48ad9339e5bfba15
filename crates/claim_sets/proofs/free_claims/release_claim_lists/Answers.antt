use Rattle.std.proofs.Common.{◌≡◌, [], ◌∷◌, ◌++◌, ◌∙◌, ap, append_assoc, append-nil}
use Rattle.region_sets.proofs.Changes.{adds_after}
use Rattle.region_sets.proofs.Released.{next_live, next_once}
use Rattle.claim_sets.specs.Claimed.{claims_slots}
use Rattle.claim_sets.specs.ConstraintClaims.{lists_claims_slots}
use Rattle.claim_sets.proofs.FreeClaimLists.{claim_lists_append}
use Rattle.claim_sets.proofs.free_claims.release_claim_lists.Goals as goal

pub release_claims-requires-clause-live : goal.release_claims-requires-clause-live
release_claims-requires-clause-live g c =
    let i = c.loop-list.invariant in
    let popped : lists_claims_slots c.loop-list.lists.items ≡ lists_claims_slots c.pop.new.self.items ++ claims_slots c.in-Some.list.items = ap lists_claims_slots c.in-Some.ensures.items ∙ claim_lists_append c.pop.new.self.items (c.in-Some.list ∷ []) ∙ ap (λ ks. lists_claims_slots c.pop.new.self.items ++ ks) (append-nil (claims_slots c.in-Some.list.items)) in
    next_live (g.S.StateSets.seen c.args.sets.now) (g.S.StateSets.seen c.loop-list.sets) (lists_claims_slots c.args.lists.items) (lists_claims_slots c.pop.new.self.items) (claims_slots c.in-Some.list.items) i.0
    c.requires.live c.requires.once (i.1 ∙ ap (λ ks. ks ++ i.0) popped) i.2

pub release_claims-requires-clause-once : goal.release_claims-requires-clause-once
release_claims-requires-clause-once g c =
    let i = c.loop-list.invariant in
    let popped : lists_claims_slots c.loop-list.lists.items ≡ lists_claims_slots c.pop.new.self.items ++ claims_slots c.in-Some.list.items = ap lists_claims_slots c.in-Some.ensures.items ∙ claim_lists_append c.pop.new.self.items (c.in-Some.list ∷ []) ∙ ap (λ ks. lists_claims_slots c.pop.new.self.items ++ ks) (append-nil (claims_slots c.in-Some.list.items)) in
    next_once (lists_claims_slots c.args.lists.items) (lists_claims_slots c.pop.new.self.items) (claims_slots c.in-Some.list.items) i.0 c.requires.once (i.1 ∙ ap (λ ks. ks ++ i.0) popped)

pub loop-list-preserved : goal.loop-list-preserved
loop-list-preserved g c =
    let i = c.loop-list.invariant in
    let popped : lists_claims_slots c.loop-list.lists.items ≡ lists_claims_slots c.pop.new.self.items ++ claims_slots c.in-Some.list.items = ap lists_claims_slots c.in-Some.ensures.items ∙ claim_lists_append c.pop.new.self.items (c.in-Some.list ∷ []) ∙ ap (λ ks. lists_claims_slots c.pop.new.self.items ++ ks) (append-nil (claims_slots c.in-Some.list.items)) in (
      claims_slots c.in-Some.list.items ++ i.0,
      i.1 ∙ ap (λ ks. ks ++ i.0) popped ∙ append_assoc (lists_claims_slots c.pop.new.self.items) (claims_slots c.in-Some.list.items) i.0,
      adds_after c.release_claims.ensures.pins i.2,
      c.release_claims.ensures.fulls ∙ i.3,
      c.release_claims.ensures.products ∙ i.4,
    )
