use Rattle.std.proofs.Common.{List, length, Ok, refl, subst}
use Rattle.std.proofs.lemmas.Result.{err_from_is_err_and}
use Rattle.region_sets.specs.Sets.{Adds}
use Rattle.fair_rules.specs.Claims.{Proof}
use Rattle.claim_sets.specs.declared.claims.Claim.{Claim}
use Rattle.claim_sets.specs.EntrySets.{IsGroundOf}
use Rattle.proof_form.specs.Preorder.{node_view}
use Rattle.claim_sets.specs.Claimed.{IsClaim, claim_slots, node_view_at, seen_claims, view_at}
use Rattle.claim_sets.proofs.Claiming.{added_full, added_none, added_one}
use Rattle.claim_sets.proofs.claims.add_claim.Goals as goal

pub returns-in_err-claim-clause-adding : goal.returns-in_err-claim-clause-adding
returns-in_err-claim-clause-adding g c =
    let p = err_from_is_err_and c.from_residual.result c.from_residual.ensures.1 in
    rw (p.1, p.2) (added_none (g.S.StateSets.seen c.args.sets.now) (g.S.StateSets.seen c.node_claim.new.sets) c.in_err-claim.field-0.0 c.args.claims.now.items c.args.claims.now.items _ refl c.in_err-claim.ensures.call)

pub returns-in-Ok-clause-adding : goal.returns-in-Ok-clause-adding
returns-in-Ok-clause-adding g c =
    added_one (g.S.StateSets.seen c.args.sets.now) (g.S.StateSets.seen c.node_claim.new.sets) (Ok c.in_ok-claim.claim) c.in_ok-claim.claim (tt {0}) c.args.claims.now.items c.push.new.self.items _ c.in-Ok.ensures.items
    c.in_ok-claim.ensures.call
    (subst (λ (cs : List Claim). (p : Proof) → IsGroundOf (g.S.StateSets.seen c.args.sets.now) c.args.ground.now p
    → IsClaim (g.S.StateSets.seen c.args.sets.now).over (g.S.StateSets.seen c.node_claim.new.sets) c.in_ok-claim.claim
    (node_view_at (g.S.StateSets.seen c.args.sets.now).over p c.args.number (node_view c.args.node.now) (view_at (seen_claims (g.S.StateSets.seen c.args.sets.now) cs)) (length cs)))
    c.deref.ensures.value c.in_ok-claim.ensures.claim)

pub returns-in-Err-clause-adding : goal.returns-in-Err-clause-adding
returns-in-Err-clause-adding g c =
    added_full (g.S.StateSets.seen c.args.sets.now) (g.S.StateSets.seen c.node_claim.new.sets) (g.S.StateSets.seen c.release.new.sets) (Ok c.in_ok-claim.claim) c.in_ok-claim.claim c.args.claims.now.items c.push.new.self.items _ c.in-Err.ensures.items
    c.in_ok-claim.ensures.call (subst (λ (x : Claim). Adds (g.S.StateSets.seen c.release.new.sets) (g.S.StateSets.seen c.node_claim.new.sets) (claim_slots x)) c.in-Err.ensures.value_returned c.release.ensures.pins) c.release.ensures.fulls
