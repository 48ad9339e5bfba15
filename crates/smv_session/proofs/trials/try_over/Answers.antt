use Rattle.std.proofs.Common.{IfOk, sym, subst}
use Rattle.kripke_model.specs.WellFormed.{ctl_of}
use Rattle.smv_session.specs.Relation.{IsTried}
use Rattle.smv_session.proofs.trials.try_over.Goals as goal

pub returns-then-trial-clause-found : goal.returns-then-trial-clause-found
returns-then-trial-clause-found c = λ limit.
    let trial = c.args.trial in
    subst
    (λ proves. IfOk c.prove_over.result
    (IsTried c.args.model.now limit proves trial.spec (ctl_of trial.formula.now)))
    (sym c.if-trial.true) (c.prove_over.ensures.found limit)

pub returns-else-trial-clause-found : goal.returns-else-trial-clause-found
returns-else-trial-clause-found c = λ limit.
    let trial = c.args.trial in
    subst
    (λ proves. IfOk c.find_over.result
    (IsTried c.args.model.now limit proves trial.spec (ctl_of trial.formula.now)))
    (sym c.if-trial.false) (c.find_over.ensures.found limit trial.spec)
