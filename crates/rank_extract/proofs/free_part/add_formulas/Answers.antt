use Rattle.std.proofs.Common.{map, arith}
use Rattle.std.proofs.lemmas.List.{length-map}
use Rattle.std.proofs.lemmas.Result.{err_from_is_err_and}
use Rattle.kripke_model.specs.WellFormed.{ctl_of}
use Rattle.region_sets.specs.Ranks.{slots, regions}
use Rattle.region_sets.specs.Sets.{region}
use Rattle.region_sets.proofs.Changes.{stays_live}
use Rattle.fair_rules.specs.FreePart.{path_nodes_of}
use Rattle.fair_fixpoint.proofs.Collected.{leaves_at}
use Rattle.rank_extract.specs.FreeMade.{formulas_hold}
use Rattle.rank_extract.proofs.FreeCalls.{formulas_none, formulas_more, formulas_end, formulas_done}
use Rattle.rank_extract.proofs.Makes.{all_stay}
use Rattle.rank_extract.proofs.free_part.add_formulas.Goals as goal

pub loop-k-init : goal.loop-k-init
loop-k-init g c =
    let s0 = g.S.StateSets.seen c.args.sets.now in
    let fs = map ctl_of c.args.formulas.now in
    formulas_none (formulas_hold s0.over (path_nodes_of fs)) s0 c.args.visits.now c.args.within.now c.args.fair.now fs c.args.entries.now.items

pub add_formula-requires-clause-visits : goal.add_formula-requires-clause-visits
add_formula-requires-clause-visits g c = all_stay (slots c.args.visits.now) c.loop-k.invariant.call.pins c.requires.visits

pub add_formula-requires-clause-within : goal.add_formula-requires-clause-within
add_formula-requires-clause-within g c = stays_live c.loop-k.invariant.call.pins c.args.within.now.slot c.requires.within

pub add_formula-requires-clause-fair : goal.add_formula-requires-clause-fair
add_formula-requires-clause-fair g c = stays_live c.loop-k.invariant.call.pins c.args.fair.now.slot c.requires.fair

pub add_formula-requires-clause-leaves : goal.add_formula-requires-clause-leaves
add_formula-requires-clause-leaves g c =
    leaves_at (g.S.StateSets.seen c.args.sets.now).over (g.S.StateSets.seen c.loop-k.sets).over c.args.formulas.now c.loop-k.k c.index-formulas-k.result c.loop-k.invariant.call.pins.over c.loop-k-test.true c.index-formulas-k.is c.requires.leaves

pub returns-in_err-add_formula : goal.returns-in_err-add_formula
returns-in_err-add_formula g c =
    let p = err_from_is_err_and c.from_residual.result c.from_residual.ensures.1 in
    rw (p.1, p.2)
    (formulas_end c.args.formulas.now c.args.visits.now c.args.within.now c.args.fair.now c.loop-k.k c.index-formulas-k.result (g.S.StateSets.seen c.args.sets.now) (g.S.StateSets.seen c.loop-k.sets) (g.S.StateSets.seen c.add_formula.new.sets)
    c.args.entries.now.items c.loop-k.entries.items c.add_formula.new.entries.items c.requires.one c.requires.visits c.requires.within c.requires.fair c.loop-k-test.true c.index-formulas-k.is c.in_err-add_formula.field-0.0 c.loop-k.invariant c.in_err-add_formula.ensures)

pub loop-k-preserved : goal.loop-k-preserved
loop-k-preserved g c =
    formulas_more c.args.formulas.now c.args.visits.now c.args.within.now c.args.fair.now c.loop-k.k c.index-formulas-k.result (g.S.StateSets.seen c.args.sets.now) (g.S.StateSets.seen c.loop-k.sets) (g.S.StateSets.seen c.add_formula.new.sets)
    c.args.entries.now.items c.loop-k.entries.items c.add_formula.new.entries.items c.requires.one c.requires.visits c.requires.within c.requires.fair c.loop-k-test.true c.index-formulas-k.is c.loop-k.invariant c.in_ok-add_formula.ensures

pub returns : goal.returns
returns g c =
    let s0 = g.S.StateSets.seen c.args.sets.now in
    let fs = map ctl_of c.args.formulas.now in
    formulas_done (formulas_hold s0.over (path_nodes_of fs)) s0.over (regions s0 c.args.visits.now) (region s0 c.args.within.now) (region s0 c.args.fair.now) s0 (g.S.StateSets.seen c.loop-k.sets) fs c.loop-k.k c.args.entries.now.items c.loop-k.entries.items tt
    (omega (arith, c.loop-k-test.false, length-map c.args.formulas.now ctl_of)) c.loop-k.invariant
