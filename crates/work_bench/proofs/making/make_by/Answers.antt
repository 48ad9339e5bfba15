use Rattle.std.proofs.Common.{refl, sym, ◌∙◌, ap, arith}
use Rattle.kripke_model.specs.WellFormed.{ctl_of}
use Rattle.region_sets.specs.Sets.{Gauge, Sets}
use Rattle.region_sets.proofs.Changes.{adds_after, stays_live}
use Rattle.diagram_sets.specs.Kept.{diagram_sets}
use Rattle.fair_fixpoint.proofs.Walked.{some_nodes}
use Rattle.spec_verdicts.proofs.LeastFailing.{minus_of_run}
use Rattle.proof_form.specs.Shape.{spec_formula}
use Rattle.rank_extract.specs.Extracts.{IsLiveRun}
use Rattle.work_bench.proofs.Shown.{live_run, on_some, shown}
use Rattle.work_bench.proofs.making.make_by.Goals as goal

pub minus-requires-clause-there : goal.minus-requires-clause-there
minus-requires-clause-there c = omega (arith, c.requires.run.2.over.nodes.count, some_nodes (ctl_of c.args.formula.now))

pub least_initial-requires : goal.least_initial-requires
least_initial-requires c =
    c.requires.live c.minus.result.now.slot
    (minus_of_run c.args.run.now c.minus.result.now c.minus.ensures (omega (arith, c.requires.run.2.over.nodes.count, some_nodes (ctl_of c.args.formula.now))))

pub make_proof-requires-clause-run : goal.make_proof-requires-clause-run
make_proof-requires-clause-run c =
    let m = c.args.model.now in
    let old = c.args.sets.now in
    let new = c.least_initial.new.sets in
    let a : Sets = diagram_sets old.parts old.pins old.fulls in
    let b : Sets = diagram_sets new.parts new.pins new.fulls in
    on_some (λ f. IsLiveRun m f b c.args.run.now) (spec_formula m c.args.spec) (ctl_of c.args.formula.now) c.requires.spec
    (live_run m (ctl_of c.args.formula.now) a b c.args.run.now (λ k. c.in_ok-failing.ensures.call.pins.kept k refl) c.requires.run
    (λ k e. stays_live c.in_ok-failing.ensures.call.pins k (c.requires.live k e)))

pub make_proof-requires-clause-shown : goal.make_proof-requires-clause-shown
make_proof-requires-clause-shown c =
    let m = c.args.model.now in
    let old = c.args.sets.now in
    let new = c.least_initial.new.sets in
    let a : Sets = diagram_sets old.parts old.pins old.fulls in
    let b : Sets = diagram_sets new.parts new.pins new.fulls in
    shown m (ctl_of c.args.formula.now) a b c.args.run.now c.minus.result.now c.in_ok-failing.failing (sym c.requires.over) (λ k. c.in_ok-failing.ensures.call.pins.kept k refl) c.minus.ensures
    (omega (arith, c.requires.run.2.over.nodes.count, some_nodes (ctl_of c.args.formula.now))) c.requires.decided c.in_ok-failing.ensures.least

pub make_proof-requires-clause-order : goal.make_proof-requires-clause-order
make_proof-requires-clause-order c =
    ap (λ (g : Gauge). g.order) c.in_ok-failing.ensures.call.pins.gauge ∙ c.requires.order

pub returns : goal.returns
returns c = adds_after c.in_ok-failing.ensures.call.pins c.make_proof.ensures
