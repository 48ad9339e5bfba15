use Rattle.std.proofs.Common.{◌+◌, ◌*◌, arith}
use Rattle.kripke_model.specs.Signs.{node_count}
use Rattle.kripke_model.specs.WellFormed.{ctl_of}
use Rattle.fair_rules.specs.FreePart.{constraint_nodes}
use Rattle.path_laws.specs.StateCount.{state_count}
use Rattle.region_sets.proofs.Calls.{let_go, stays_over_release, then_call}
use Rattle.region_sets.proofs.Changes.{adds_after}
use Rattle.fair_fixpoint.specs.Runs.{run_slots}
use Rattle.fair_fixpoint.specs.SatSets.{pin_bound}
use Rattle.spec_verdicts.specs.Proved.{proved_slots}
use Rattle.spec_verdicts.proofs.KeptProofs.{has_after}
use Rattle.spec_verdicts.proofs.KeptRuns.{pin_bound-more}
use Rattle.spec_verdicts.proofs.proving.prove.Goals as goal

pub returns-clause-call : goal.returns-clause-call
returns-clause-call g c =
    let m = c.args.model.now in
    let n = node_count (ctl_of c.args.formula.now) in
    let k = constraint_nodes m in
    let b = pin_bound m (n + k) (state_count m) in
    let few = c.in_ok-run.ensures.few (state_count m) (omega arith) in
    let more = pin_bound-more m n k (state_count m) in
    let_go {xs = run_slots c.in_ok-run.run'} {ys = proved_slots c.proved_by-proved.result}
    (then_call (2 * b) (c.in_ok-run.ensures.pins (state_count m) (omega arith)) c.proved_by-proved.ensures.call (omega arith) (omega (arith, few, more))) c.release.ensures.pins c.release.ensures.fulls

pub returns-clause-proof : goal.returns-clause-proof
returns-clause-proof g c =
    let m = c.args.model.now in
    let first = c.in_ok-run.ensures.pins (state_count m) (omega arith) in
    has_after m c.args.spec (g.S.StateSets.seen c.proved_by-proved.new.sets) (g.S.StateSets.seen c.release.new.sets) c.proved_by-proved.result
    (λ k here. stays_over_release {xs = run_slots c.in_ok-run.run'} (proved_slots c.proved_by-proved.result) (adds_after first.pins c.proved_by-proved.ensures.call.pins) c.release.ensures.pins k here)
    c.proved_by-proved.ensures.proof
