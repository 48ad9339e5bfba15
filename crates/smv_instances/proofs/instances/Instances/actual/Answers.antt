use Rattle.std.proofs.Common.{refl, subst}
use Rattle.std.proofs.lemmas.Option.{slice_get_past, slice_get_read}
use Rattle.smv_instances.specs.Instances.{instances}
use Rattle.smv_instances.specs.Walk.{IsStep}
use Rattle.smv_instances.proofs.InstanceLemmas.{is_row, no_step, step_absent, step_actual}
use Rattle.smv_instances.proofs.instances.Instances.actual.Goals as goal

pub returns-in_default-clause-none : goal.returns-in_default-clause-none
returns-in_default-clause-none c = λ p s are at.
    let row = is_row p c.args.self.now c.args.i c.index.result.now s are c.index.ensures at in
    no_step (instances p) c.args.i c.args.place s (subst (λ o. IsStep (instances p) c.args.i o s) c.in_default.is row.step)

pub returns-in_err-actual-clause-none : goal.returns-in_err-actual-clause-none
returns-in_err-actual-clause-none c = λ p s are at.
    let row = is_row p c.args.self.now c.args.i c.index.result.now s are c.index.ensures at in
    rw c.from_residual.ensures (step_absent (instances p) c.args.i c.in-Some.step s c.args.place (subst (λ o. IsStep (instances p) c.args.i o s) c.in-Some.is row.step) (slice_get_past c.in-Some.step.actuals.now c.args.place c.in_err-actual.ensures.lookup.3))

pub returns-clause-some : goal.returns-clause-some
returns-clause-some c = λ p s are at.
    let row = is_row p c.args.self.now c.args.i c.index.result.now s are c.index.ensures at in
    let within = c.in_ok-actual.ensures.lookup.3.0 in
    step_actual p c.args.i c.in-Some.step s c.args.place c.in_ok-actual.actual.now (subst (λ o. IsStep (instances p) c.args.i o s) c.in-Some.is row.step) (slice_get_read c.in-Some.step.actuals.now _ c.args.place c.in_ok-actual.actual.now refl within c.in_ok-actual.ensures.lookup.1)
