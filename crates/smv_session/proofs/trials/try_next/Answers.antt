use Rattle.kripke_model.specs.WellFormed.{ctl_of}
use Rattle.smv_session.specs.Relation.{trial_pins}
use Rattle.smv_session.proofs.Budget.{trial_fits}
use Rattle.smv_session.proofs.Ready.{met_by, ready_after, ready_same}
use Rattle.smv_session.proofs.trials.try_next.Goals as goal

pub returns-in-Ok-clause-ready : goal.returns-in-Ok-clause-ready
returns-in-Ok-clause-ready c = λ limit ready.
    ready_after c.args.model.now limit (trial_pins c.args.model.now (ctl_of c.args.trial.formula.now))
    (trial_fits c.args.model.now c.args.trial.spec (ctl_of c.args.trial.formula.now)
    c.requires.trial.spec_is c.state_count_law.ensures) _ _
    (ready_same c.args.model.now limit _ _ c.in_ok-collect.ensures.same ready) c.in-Ok.ensures.call

pub returns-in-Ok-clause-tried : goal.returns-in-Ok-clause-tried
returns-in-Ok-clause-tried c = λ limit ready. c.in-Ok.ensures.found limit

pub returns-in-Err-Full-clause-ready : goal.returns-in-Err-Full-clause-ready
returns-in-Err-Full-clause-ready c = λ limit ready.
    ready_after c.args.model.now limit (trial_pins c.args.model.now (ctl_of c.args.trial.formula.now))
    (trial_fits c.args.model.now c.args.trial.spec (ctl_of c.args.trial.formula.now)
    c.requires.trial.spec_is c.state_count_law.ensures) _ _
    (ready_same c.args.model.now limit _ _ c.in_ok-collect.ensures.same ready)
    c.in-Err-Full.ensures.call

pub returns-in-Err-Full-clause-tried : goal.returns-in-Err-Full-clause-tried
returns-in-Err-Full-clause-tried c = λ limit ready.
    let call = rw c.in-Err-Full.field-0-is at c.in-Err-Full.ensures.call in
    met_by c.args.model.now limit (trial_pins c.args.model.now (ctl_of c.args.trial.formula.now))
    (trial_fits c.args.model.now c.args.trial.spec (ctl_of c.args.trial.formula.now)
    c.requires.trial.spec_is c.state_count_law.ensures) _ _
    (ready_same c.args.model.now limit _ _ c.in_ok-collect.ensures.same ready) _ call
