use Rattle.std.proofs.Common.{◌+◌, length, refl, arith}
use Rattle.std.proofs.lemmas.Result.{err_from_is_err_and}
use Rattle.kripke_model.specs.Signs.{node_count}
use Rattle.kripke_model.specs.WellFormed.{ctl_of}
use Rattle.fair_rules.specs.FreePart.{constraint_nodes}
use Rattle.path_laws.specs.StateCount.{state_count}
use Rattle.region_sets.proofs.Calls.{then_call}
use Rattle.fair_fixpoint.specs.Runs.{run_slots}
use Rattle.fair_fixpoint.specs.SatSets.{pin_bound}
use Rattle.fair_fixpoint.proofs.Lists.{to_err, to_ok}
use Rattle.fair_fixpoint.proofs.Walked.{some_nodes}
use Rattle.proof_form.specs.Shape.{spec_formula}
use Rattle.rank_extract.specs.Extracts.{IsLiveRun}
use Rattle.smv_texts.specs.Outcomes.{outcome_of}
use Rattle.spec_verdicts.proofs.Shown.{all_live, live_run, on_some, shown}
use Rattle.proof_form.specs.Pinned.{proof_slots}
use Rattle.spec_verdicts.proofs.KeptProofs.{few_for, held_for}
use Rattle.spec_verdicts.proofs.proving.proved_by.Goals as goal

pub proof_by-requires-clause-run : goal.proof_by-requires-clause-run
proof_by-requires-clause-run g c =
    let m = c.args.model.now in
    let f = ctl_of c.args.formula.now in
    let a = g.S.StateSets.seen c.args.sets.now in
    let b = g.S.StateSets.seen c.outcome_by.new.sets in
    on_some (λ x. IsLiveRun m x b c.args.run.now) (spec_formula m c.args.spec) f c.requires.spec
    (live_run m f a b c.args.run.now (λ k. c.in_ok-outcome.ensures.call.pins.kept k refl) c.requires.run
    (all_live a b (run_slots c.args.run.now) (λ k. c.in_ok-outcome.ensures.call.pins.kept k refl) c.requires.live))

pub proof_by-requires-clause-shown : goal.proof_by-requires-clause-shown
proof_by-requires-clause-shown g c =
    let m = c.args.model.now in
    let f = ctl_of c.args.formula.now in
    let a = g.S.StateSets.seen c.args.sets.now in
    let b = g.S.StateSets.seen c.outcome_by.new.sets in
    shown m f a b c.args.run.now (outcome_of c.in_ok-outcome.outcome) (λ k. c.in_ok-outcome.ensures.call.pins.kept k refl)
    (omega (arith, c.requires.run.2.over.nodes.count, some_nodes f)) c.requires.parted c.in_ok-outcome.ensures.found

pub returns-in_err-proof-clause-call : goal.returns-in_err-proof-clause-call
returns-in_err-proof-clause-call g c =
    let m = c.args.model.now in
    let f = ctl_of c.args.formula.now in
    let b = pin_bound m (node_count f + constraint_nodes m) (state_count m) in
    let p = err_from_is_err_and c.from_residual-in_err-proof.result c.from_residual-in_err-proof.ensures.1 in
    rw (p.1, p.2) (to_err c.in_err-proof.field-0.0
    (then_call b c.in_ok-outcome.ensures.call (held_for m f c.args.spec c.requires.spec c.in_err-proof.ensures.call) (omega arith) (omega arith)))

pub returns-clause-call : goal.returns-clause-call
returns-clause-call g c =
    let m = c.args.model.now in
    let f = ctl_of c.args.formula.now in
    let b = pin_bound m (node_count f + constraint_nodes m) (state_count m) in
    to_ok _ (then_call b c.in_ok-outcome.ensures.call (held_for m f c.args.spec c.requires.spec c.in_ok-proof.ensures.call) (omega arith) (omega arith))

pub returns-clause-few : goal.returns-clause-few
returns-clause-few g c =
    few_for c.args.model.now (ctl_of c.args.formula.now) c.args.spec (length (proof_slots c.in_ok-proof.proof))
    c.requires.spec c.in_ok-proof.ensures.few
