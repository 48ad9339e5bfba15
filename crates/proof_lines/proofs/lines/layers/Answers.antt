use Rattle.std.proofs.Common.{arith, sym, ◌∙◌, ap, subst}
use Rattle.std.specs.Prelude.{◌⊎◌}
use Rattle.std.proofs.lemmas.Bool.{false≢true}
use Rattle.region_sets.specs.declared.pins.Pin.{Pin}
use Rattle.region_sets.specs.Sets.{In, IsLive, Stands}
use Rattle.region_sets.proofs.Changes.{stays_live}
use Rattle.claim_sets.proofs.Joined.{layer_live}
use Rattle.proof_lines.proofs.LayerLines.{layering_none, layering_fails, layering_more, layering_all}
use Rattle.proof_lines.proofs.lines.layers.Goals as goal

pub loop-k-init : goal.loop-k-init
loop-k-init g c = record {
  going = layering_none (g.S.StateSets.seen c.args.sets.now) c.args.constraints.now c.args.f.now c.args.out.now c.args.layers.now c.args.line.now (g.S.StateSets.seen c.empty.new.self) c.in_ok-earlier.earlier
      c.in_ok-earlier.ensures.call c.in_ok-earlier.ensures.set;
  products = omega (arith, c.in_ok-earlier.ensures.products);
}

pub layer_holds-requires-clause-live : goal.layer_holds-requires-clause-live
layer_holds-requires-clause-live g c =
    stays_live c.loop-k.invariant.going.call.pins c.index-layers-k.result.set.slot (subst (λ l. IsLive (g.S.StateSets.seen c.args.sets.now) l.set.slot) (sym c.index-layers-k.is)
    (layer_live (g.S.StateSets.seen c.args.sets.now) c.args.layers.now c.loop-k.k c.index-layers-k.result c.requires.live c.loop-k-test.true))

pub returns-in-Ok-false-clause-tested : goal.returns-in-Ok-false-clause-tested
returns-in-Ok-false-clause-tested g c =
    layering_fails (g.S.StateSets.seen c.args.sets.now) c.args.constraints.now c.args.f.now c.args.out.now c.args.layers.now c.args.line.now (g.S.StateSets.seen c.loop-k.sets) c.loop-k.k c.loop-k.line c.index-layers-k.result
    c.loop-k.earlier c.requires.given c.requires.f c.requires.out c.requires.live c.loop-k-test.true c.index-layers-k.is c.loop-k.invariant.going
    (λ h. false≢true (sym c.in-Ok-false.field-0-test ∙ c.in-Ok-false.ensures.answer.1 h))

pub join-more-requires-clause-b : goal.join-more-requires-clause-b
join-more-requires-clause-b g c =
    subst (λ p. IsLive (g.S.StateSets.seen c.layer_holds.new.sets) p.slot) (sym (ap (λ l. l.set) c.layer.view_is))
    (stays_live c.layer_holds.ensures.call.pins c.index-layers-k.result.set.slot
    (stays_live c.loop-k.invariant.going.call.pins c.index-layers-k.result.set.slot (subst (λ l. IsLive (g.S.StateSets.seen c.args.sets.now) l.set.slot) (sym c.index-layers-k.is)
    (layer_live (g.S.StateSets.seen c.args.sets.now) c.args.layers.now c.loop-k.k c.index-layers-k.result c.requires.live c.loop-k-test.true))))

pub loop-k-preserved : goal.loop-k-preserved
loop-k-preserved g c =
    let tested = g.S.StateSets.seen c.layer_holds.new.sets in record {
      going = layering_more (g.S.StateSets.seen c.args.sets.now) c.args.constraints.now c.args.f.now c.args.out.now c.args.layers.now c.args.line.now (g.S.StateSets.seen c.loop-k.sets) tested
          (g.S.StateSets.seen c.join-more.new.self) (g.S.StateSets.seen c.release-in-loop-k.new.self) c.loop-k.k c.loop-k.line c.count.new.line c.index-layers-k.result c.loop-k.earlier c.in-Ok.pin c.layer_holds.result
          c.requires.given c.requires.f c.requires.out c.requires.live c.loop-k-test.true c.index-layers-k.is c.loop-k.invariant.going c.layer_holds.ensures.call (c.in-Ok-true.ensures.answer.0 c.in-Ok-true.field-0-test) c.count.ensures
          c.in-Ok.ensures.call (subst (λ (p : Pin). Stands (g.S.StateSets.seen c.join-more.new.self) c.in-Ok.pin.slot (λ s. In tested c.loop-k.earlier.slot s ⊎ In tested p.slot s)) (ap (λ l. l.set) c.layer.view_is) c.in-Ok.ensures.set)
          c.release-in-loop-k.ensures.pins c.release-in-loop-k.ensures.fulls;
      products = omega (arith, c.release-in-loop-k.ensures.products, c.in-Ok.ensures.products, c.layer_holds.ensures.products, c.loop-k.invariant.products);
    }

pub returns-clause-tested : goal.returns-clause-tested
returns-clause-tested g c =
    layering_all (g.S.StateSets.seen c.args.sets.now) c.args.constraints.now c.args.f.now c.args.out.now c.args.layers.now c.args.line.now (g.S.StateSets.seen c.loop-k.sets) c.loop-k.k c.loop-k.line c.loop-k.earlier
    c.loop-k-test.false c.loop-k.invariant.going
