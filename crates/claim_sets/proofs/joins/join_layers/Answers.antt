use Rattle.std.proofs.Common.{[], Ok, Err, arith, sym, ◌∙◌, ap, subst}
use Rattle.std.specs.Prelude.{◌⊎◌}
use Rattle.region_sets.specs.declared.pins.Pin.{Pin}
use Rattle.region_sets.specs.Sets.{In, IsLive, Stands}
use Rattle.region_sets.proofs.Slots.{is_one_of-first}
use Rattle.region_sets.proofs.Changes.{stays_live}
use Rattle.proof_form.specs.Form.{layer_sets}
use Rattle.claim_sets.proofs.Joined.{count_sets, layer_live, joining_none, joined_call, joining_layer, joining_all}
use Rattle.claim_sets.proofs.joins.join_layers.Goals as goal

pub loop-k-init : goal.loop-k-init
loop-k-init g c = record { joining = joining_none _ _ _ _ c.in_ok-all.ensures.call c.in_ok-all.ensures.set; products = c.in_ok-all.ensures.products }

pub join-more-requires-clause-a : goal.join-more-requires-clause-a
join-more-requires-clause-a g c = c.loop-k.invariant.joining.call.pins.there _ (is_one_of-first _ [])

pub join-more-requires-clause-b : goal.join-more-requires-clause-b
join-more-requires-clause-b g c =
    subst (λ (p : Pin). IsLive (g.S.StateSets.seen c.loop-k.sets) p.slot) (sym (ap (λ l. l.set) c.layer.view_is ∙ ap (λ l. l.set) c.index-layers-k.is))
    (stays_live c.loop-k.invariant.joining.call.pins _ (layer_live (g.S.StateSets.seen c.args.sets.now) c.args.layers.now c.loop-k.k c.index-layers-k.result c.requires c.loop-k-test.true))

pub release-requires : goal.release-requires
release-requires g c = stays_live c.join-more.ensures.call.pins _ (c.loop-k.invariant.joining.call.pins.there _ (is_one_of-first _ []))

pub returns-in-Err-clause-call : goal.returns-in-Err-clause-call
returns-in-Err-clause-call g c =
    joined_call 2 _ _ _ _ c.loop-k.all (Err c.in-Err.refusal) (Ok c.loop-k.all) (omega arith) c.loop-k.invariant.joining.call c.in-Err.ensures.call c.release.ensures.pins c.release.ensures.fulls

pub loop-k-preserved : goal.loop-k-preserved
loop-k-preserved g c =
    let after = g.S.StateSets.seen c.join-more.new.self in
    let now = g.S.StateSets.seen c.loop-k.sets in record {
      joining = joining_layer (g.S.StateSets.seen c.args.sets.now) now after (g.S.StateSets.seen c.release.new.self) c.args.layers.now c.loop-k.k c.index-layers-k.result c.loop-k.all c.in-Ok.pin c.requires c.loop-k-test.true c.loop-k.invariant.joining
          c.in-Ok.ensures.call (subst (λ (p : Pin). Stands after c.in-Ok.pin.slot (λ s. In now c.loop-k.all.slot s ⊎ In now p.slot s)) (ap (λ l. l.set) c.layer.view_is ∙ ap (λ l. l.set) c.index-layers-k.is) c.in-Ok.ensures.set)
          c.release.ensures.pins c.release.ensures.fulls;
      products = c.release.ensures.products ∙ c.in-Ok.ensures.products ∙ c.loop-k.invariant.products;
    }

pub returns-clause-call : goal.returns-clause-call
returns-clause-call g c = c.loop-k.invariant.joining.call

pub returns-clause-set : goal.returns-clause-set
returns-clause-set g c = joining_all _ _ (layer_sets c.args.layers.now) c.loop-k.k _ (omega (arith, c.loop-k-test.false, count_sets c.args.layers.now)) c.loop-k.invariant.joining
