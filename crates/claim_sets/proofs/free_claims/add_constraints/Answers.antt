use Rattle.std.proofs.Common.{refl, ◌∙◌, map, Err, arith}
use Rattle.std.proofs.lemmas.List.{length-map}
use Rattle.std.proofs.lemmas.Result.{err_from_is_err_and}
use Rattle.kripke_model.specs.WellFormed.{ctl_of}
use Rattle.claim_sets.proofs.FreeClaimLists.{formula_at, formula_there, free_ground_then, leaves_at, listed_call, listed_more, listed_none, listed_pins}
use Rattle.claim_sets.proofs.free_claims.add_constraints.Goals as goal

pub loop-k-init : goal.loop-k-init
loop-k-init g c = record { listed = listed_none c.args.part.now (map ctl_of c.args.formulas.now) (g.S.StateSets.seen c.args.sets.now) c.args.lists.now.items c.requires.none; products = refl }

pub add_constraint-requires-clause-ground : goal.add_constraint-requires-clause-ground
add_constraint-requires-clause-ground g c =
    free_ground_then (g.S.StateSets.seen c.args.sets.now) (g.S.StateSets.seen c.loop-k.sets) c.args.full.now c.args.nonfair.now c.args.part.now c.loop-k.invariant.listed.call.pins c.requires.ground

pub add_constraint-requires-clause-leaves : goal.add_constraint-requires-clause-leaves
add_constraint-requires-clause-leaves g c =
    leaves_at (g.S.StateSets.seen c.args.sets.now).over (g.S.StateSets.seen c.loop-k.sets).over c.args.formulas.now c.loop-k.k c.index-formulas-k.result c.loop-k.invariant.listed.call.pins.over c.loop-k-test.true c.index-formulas-k.is
    c.requires.leaves

pub add_constraint-requires-clause-few : goal.add_constraint-requires-clause-few
add_constraint-requires-clause-few g c = omega (arith, c.loop-k.invariant.listed.count, c.loop-k-test.true, c.requires.few)

pub loop-k-preserved : goal.loop-k-preserved
loop-k-preserved g c = record {
  listed = listed_more c.args.part.now (map ctl_of c.args.formulas.now) (g.S.StateSets.seen c.args.sets.now) c.args.full.now c.args.nonfair.now (g.S.StateSets.seen c.loop-k.sets) (g.S.StateSets.seen c.add_constraint.new.sets) c.loop-k.k
      c.loop-k.lists.items c.add_constraint.new.lists.items (ctl_of c.index-formulas-k.result) c.requires.ground c.loop-k.invariant.listed (formula_there c.args.formulas.now c.loop-k.k c.loop-k-test.true)
      (formula_at c.args.formulas.now c.loop-k.k c.index-formulas-k.result c.loop-k-test.true c.index-formulas-k.is) (tt {0}) c.in_ok-add_constraint.ensures.listing;
  products = c.in_ok-add_constraint.ensures.products ∙ c.loop-k.invariant.products;
}

pub returns-in_err-add_constraint-clause-call : goal.returns-in_err-add_constraint-clause-call
returns-in_err-add_constraint-clause-call g c =
    let p = err_from_is_err_and c.from_residual.result c.from_residual.ensures.1 in
    rw (p.1, p.2)
    (listed_call c.args.part.now (map ctl_of c.args.formulas.now) (g.S.StateSets.seen c.args.sets.now) c.args.full.now c.args.nonfair.now (g.S.StateSets.seen c.loop-k.sets) (g.S.StateSets.seen c.add_constraint.new.sets) c.loop-k.k
    c.loop-k.lists.items c.add_constraint.new.lists.items (ctl_of c.index-formulas-k.result) c.requires.ground c.loop-k.invariant.listed (formula_there c.args.formulas.now c.loop-k.k c.loop-k-test.true)
    (formula_at c.args.formulas.now c.loop-k.k c.index-formulas-k.result c.loop-k-test.true c.index-formulas-k.is) (Err c.in_err-add_constraint.field-0.0) c.in_err-add_constraint.ensures.listing)

pub returns-clause-pins : goal.returns-clause-pins
returns-clause-pins g c =
    listed_pins c.args.part.now (map ctl_of c.args.formulas.now) (g.S.StateSets.seen c.args.sets.now) (g.S.StateSets.seen c.loop-k.sets) c.loop-k.k c.loop-k.lists.items
    (omega (arith, c.loop-k-test.false, length-map c.args.formulas.now ctl_of)) c.loop-k.invariant.listed

pub returns-clause-claims : goal.returns-clause-claims
returns-clause-claims g c = λ k f lt. c.loop-k.invariant.listed.each k f (omega (arith, lt, c.loop-k-test.false))
