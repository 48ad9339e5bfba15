use Rattle.std.proofs.Common.{length, Ok, refl, subst, arith}
use Rattle.std.specs.Global.{Vec}
use Rattle.std.proofs.lemmas.Result.{err_from_is_err_and}
use Rattle.region_sets.specs.Sets.{Adds}
use Rattle.claim_sets.specs.declared.claims.Claim.{Claim}
use Rattle.claim_sets.specs.Claimed.{claims_slots}
use Rattle.claim_sets.proofs.FreeClaimLists.{listed_full, listed_one, listed_refused}
use Rattle.claim_sets.proofs.free_claims.add_constraint.Goals as goal

pub returns-in_err-list-clause-listing : goal.returns-in_err-list-clause-listing
returns-in_err-list-clause-listing g c =
    let p = err_from_is_err_and c.from_residual.result c.from_residual.ensures.1 in
    rw (p.1, p.2)
    (listed_refused _ _ (g.S.StateSets.seen c.args.sets.now) (g.S.StateSets.seen c.constraint_list.new.sets) c.in_err-list.field-0.0 c.args.lists.now.items c.args.lists.now.items _ refl c.in_err-list.ensures.call)

pub returns-in-Ok-clause-listing : goal.returns-in-Ok-clause-listing
returns-in-Ok-clause-listing g c =
    listed_one _ _ (g.S.StateSets.seen c.args.sets.now) (g.S.StateSets.seen c.constraint_list.new.sets) (Ok c.in_ok-list.list) c.in_ok-list.list (tt {0}) c.args.lists.now.items c.push.new.self.items _ c.in-Ok.ensures.items
    c.in_ok-list.ensures.call c.in_ok-list.ensures.pins (c.in_ok-list.ensures.claims (length c.args.lists.now.items) (omega (arith, c.requires.few)))

pub returns-in-Err-clause-listing : goal.returns-in-Err-clause-listing
returns-in-Err-clause-listing g c =
    listed_full _ _ (g.S.StateSets.seen c.args.sets.now) (g.S.StateSets.seen c.constraint_list.new.sets) (g.S.StateSets.seen c.release_claims.new.sets) (Ok c.in_ok-list.list) c.in_ok-list.list c.args.lists.now.items c.push.new.self.items _
    c.in-Err.ensures.items c.in_ok-list.ensures.call
    (subst (λ (x : Vec Claim). Adds (g.S.StateSets.seen c.release_claims.new.sets) (g.S.StateSets.seen c.constraint_list.new.sets) (claims_slots x.items)) c.in-Err.ensures.value_returned c.release_claims.ensures.pins)
    c.release_claims.ensures.fulls
