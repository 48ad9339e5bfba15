use Rattle.std.proofs.Common.{◌<◌, ◌+◌, take, length, refl, ap, subst, arith}
use Rattle.std.specs.Prelude.{option_map}
use Rattle.std.proofs.lemmas.List.{take_all}
use Rattle.std.specs.List.{slice_index_or}
use Rattle.region_sets.specs.Sets.{Gauge}
use Rattle.spec_verdicts.specs.Found.{AreFound}
use Rattle.smv_session.proofs.FormulaPlaces.{as_many, leaves_at, tried_in, front_more, none_yet, spec_at}
use Rattle.smv_session.proofs.decision.try_each.Goals as goal

pub loop-place-init : goal.loop-place-init
loop-place-init c = record { found = c.requires.begun; ready = c.requires.ready }

pub try_next-requires-clause-over : goal.try_next-requires-clause-over
try_next-requires-clause-over c = c.loop-place.invariant.ready.over

pub try_next-requires-clause-order : goal.try_next-requires-clause-order
try_next-requires-clause-order c = ap (λ (g : Gauge). g.order) c.loop-place.invariant.ready.gauge

pub overflow_cast-trial : goal.overflow_cast-trial
overflow_cast-trial c =
    let many = as_many c.formulas-formulas.result.now c.args.model.now.specs c.formulas-formulas.ensures in
    omega (arith, many, c.loop-place-test.true, c.rules_law.ensures.flat.limits.specifications)

pub overflow_add-trial : goal.overflow_add-trial
overflow_add-trial c =
    let many = as_many c.formulas-formulas.result.now c.args.model.now.specs c.formulas-formulas.ensures in
    omega (arith, many, c.loop-place-test.true, c.rules_law.ensures.flat.limits.specifications)

pub try_next-requires-clause-trial : goal.try_next-requires-clause-trial
try_next-requires-clause-trial c =
    let m = c.args.model.now in
    let fs = c.formulas-formulas.result.now in
    let i = c.loop-place.place in
    let f = c.index-formulas-place.result in
    record {
      leaves = leaves_at m fs i f c.index-formulas-place.is c.formulas-formulas.ensures c.loop-place-test.true c.leaves_law.ensures.specs;
      spec_is = spec_at m fs i (i + 1) f c.index-formulas-place.is c.formulas-formulas.ensures c.loop-place-test.true refl;
    }

pub loop-place-preserved : goal.loop-place-preserved
loop-place-preserved c =
    let m = c.args.model.now in
    let fs = c.formulas-formulas.result.now in
    let i = c.loop-place.place in
    let many = as_many fs m.specs c.formulas-formulas.ensures in
    let below : i < length m.specs = omega (arith, many, c.loop-place-test.true) in
    record {
      found = front_more m c.args.limit _ i c.add.new.found below
          (c.in_ok-add.ensures _ (take i m.specs) (slice_index_or m.specs i none_yet) c.loop-place.invariant.found
          (tried_in m c.args.limit fs i c.index-formulas-place.result c.in_ok-tried.tried (λ name. name.now) c.args.proofs c.is_some.result c.index-formulas-place.is c.formulas-formulas.ensures c.loop-place-test.true c.is_some.ensures (c.in_ok-tried.ensures.tried c.args.limit c.loop-place.invariant.ready)));
      ready = c.in_ok-tried.ensures.ready c.args.limit c.loop-place.invariant.ready;
    }

pub returns : goal.returns
returns c =
    let many = as_many c.formulas-formulas.result.now c.args.model.now.specs c.formulas-formulas.ensures in
    subst (λ cs. AreFound c.args.model.now c.args.limit (option_map (λ name. name.now) c.args.proofs) cs c.loop-place.found)
    (take_all c.loop-place.place c.args.model.now.specs (omega (arith, many, c.loop-place-test.false, c.loop-place.auto.place-end))) c.loop-place.invariant.found
