use Rattle.std.proofs.Common.{◌∙◌, ◌-◌, length, Err, refl}
use Rattle.std.proofs.lemmas.Result.{err_from_is_err_and}
use Rattle.std.proofs.lemmas.List.{length-map}
use Rattle.proof_form.specs.Preorder.{node_view, node_views}
use Rattle.claim_sets.proofs.Grounds.{ground_then}
use Rattle.claim_sets.proofs.Claiming.{claiming_call, claiming_more, claiming_none, placed_there}
use Rattle.proof_form.proofs.Preordered.{node_at}
use Rattle.claim_sets.proofs.claims.add_claims.Goals as goal

pub loop-k-init : goal.loop-k-init
loop-k-init g c = record { claiming = claiming_none (length c.args.nodes.now) c.args.ground.now (node_views c.args.nodes.now) (g.S.StateSets.seen c.args.sets.now) c.args.claims.now.items c.requires.none; products = refl }

pub add_claim-requires-clause-ground : goal.add_claim-requires-clause-ground
add_claim-requires-clause-ground g c = ground_then (g.S.StateSets.seen c.args.sets.now) (g.S.StateSets.seen c.loop-k.sets) c.args.ground.now c.loop-k.invariant.claiming.call.pins c.requires.ground

pub add_claim-requires-clause-live : goal.add_claim-requires-clause-live
add_claim-requires-clause-live g c = c.loop-k.invariant.claiming.call.pins.there

pub add_claim-requires-clause-placed : goal.add_claim-requires-clause-placed
add_claim-requires-clause-placed g c =
    placed_there (length c.args.nodes.now) c.args.ground.now (node_views c.args.nodes.now) (g.S.StateSets.seen c.args.sets.now) (g.S.StateSets.seen c.loop-k.sets) (g.S.StateSets.seen c.loop-k.sets) c.loop-k.k
    (length c.args.nodes.now - c.loop-k.k) c.loop-k.claims.items c.loop-k.claims.items (node_view c.index-nodes-k.result) c.requires.ground c.loop-k.invariant.claiming (length-map c.args.nodes.now node_view) refl c.loop-k-test.true
    (node_at c.args.nodes.now c.loop-k.k c.index-nodes-k.result c.loop-k-test.true c.index-nodes-k.is) c.requires.placed

pub loop-k-preserved : goal.loop-k-preserved
loop-k-preserved g c = record {
  claiming = claiming_more (length c.args.nodes.now) c.args.ground.now (node_views c.args.nodes.now) (g.S.StateSets.seen c.args.sets.now) (g.S.StateSets.seen c.loop-k.sets) (g.S.StateSets.seen c.add_claim.new.sets) c.loop-k.k
      (length c.args.nodes.now - c.loop-k.k) c.loop-k.claims.items c.add_claim.new.claims.items (node_view c.index-nodes-k.result) c.requires.ground c.loop-k.invariant.claiming (length-map c.args.nodes.now node_view) refl c.loop-k-test.true
      (node_at c.args.nodes.now c.loop-k.k c.index-nodes-k.result c.loop-k-test.true c.index-nodes-k.is) c.requires.placed (tt {0}) c.in_ok-add_claim.ensures.adding;
  products = c.in_ok-add_claim.ensures.products ∙ c.loop-k.invariant.products;
}

pub returns-in_err-add_claim-clause-call : goal.returns-in_err-add_claim-clause-call
returns-in_err-add_claim-clause-call g c =
    let p = err_from_is_err_and c.from_residual.result c.from_residual.ensures.1 in
    rw (p.1, p.2) (claiming_call (length c.args.nodes.now) c.args.ground.now (node_views c.args.nodes.now) (g.S.StateSets.seen c.args.sets.now) (g.S.StateSets.seen c.loop-k.sets) (g.S.StateSets.seen c.add_claim.new.sets) c.loop-k.k
    (length c.args.nodes.now - c.loop-k.k) c.loop-k.claims.items c.add_claim.new.claims.items (node_view c.index-nodes-k.result) c.requires.ground c.loop-k.invariant.claiming (length-map c.args.nodes.now node_view) refl c.loop-k-test.true
    (node_at c.args.nodes.now c.loop-k.k c.index-nodes-k.result c.loop-k-test.true c.index-nodes-k.is) c.requires.placed (Err c.in_err-add_claim.field-0.0) c.in_err-add_claim.ensures.adding)
