use Rattle.std.proofs.Common.{[], Ok, Err, ◌∙◌, arith}
use Rattle.region_sets.proofs.Slots.{is_one_of-first}
use Rattle.region_sets.proofs.Changes.{stays_live}
use Rattle.claim_sets.proofs.Joined.{slot_at, joining_none, joined_call, joining_more, joining_all}
use Rattle.claim_sets.proofs.joins.join_all.Goals as goal

pub loop-k-init : goal.loop-k-init
loop-k-init g c = record { joining = joining_none _ _ _ _ c.in_ok-all.ensures.call c.in_ok-all.ensures.set; products = c.in_ok-all.ensures.products }

pub join-more-requires-clause-a : goal.join-more-requires-clause-a
join-more-requires-clause-a g c = c.loop-k.invariant.joining.call.pins.there _ (is_one_of-first _ [])

pub join-more-requires-clause-b : goal.join-more-requires-clause-b
join-more-requires-clause-b g c = stays_live c.loop-k.invariant.joining.call.pins _ (c.requires _ (slot_at c.args.pins.now c.loop-k.k (record { slot = 0 }) c.loop-k-test.true))

pub release-requires : goal.release-requires
release-requires g c = stays_live c.join-more.ensures.call.pins _ (c.loop-k.invariant.joining.call.pins.there _ (is_one_of-first _ []))

pub returns-in-Err-clause-call : goal.returns-in-Err-clause-call
returns-in-Err-clause-call g c =
    joined_call 2 _ _ _ _ c.loop-k.all (Err c.in-Err.refusal) (Ok c.loop-k.all) (omega arith) c.loop-k.invariant.joining.call c.in-Err.ensures.call c.release.ensures.pins c.release.ensures.fulls

pub loop-k-preserved : goal.loop-k-preserved
loop-k-preserved g c = record {
  joining = joining_more _ _ _ _ c.args.pins.now c.loop-k.k _ c.loop-k.all c.in-Ok.pin c.requires c.loop-k-test.true c.loop-k.invariant.joining
      c.in-Ok.ensures.call c.in-Ok.ensures.set c.release.ensures.pins c.release.ensures.fulls;
  products = c.release.ensures.products ∙ c.in-Ok.ensures.products ∙ c.loop-k.invariant.products;
}

pub returns-clause-call : goal.returns-clause-call
returns-clause-call g c = c.loop-k.invariant.joining.call

pub returns-clause-set : goal.returns-clause-set
returns-clause-set g c = joining_all _ _ c.args.pins.now c.loop-k.k _ c.loop-k-test.false c.loop-k.invariant.joining
