use Rattle.std.proofs.lemmas.Result.{err_from_is_err_and}
use Rattle.kripke_model.specs.WellFormed.{ctl_of}
use Rattle.region_sets.proofs.Changes.{stays_live}
use Rattle.fair_fixpoint.proofs.Lists.{to_err, to_ok}
use Rattle.smv_session.proofs.Ready.{after_block}
use Rattle.smv_session.proofs.trials.prove_over.Goals as goal

pub release-requires-clause-live : goal.release-requires-clause-live
release-requires-clause-live c = λ k here.
    stays_live c.block_text-block.ensures.call.pins k (c.in_ok-outcome.ensures.call.pins.there k here)

pub returns-in_err-block-clause-call : goal.returns-in_err-block-clause-call
returns-in_err-block-clause-call c =
    let p = err_from_is_err_and c.from_residual-in_err-block.result c.from_residual-in_err-block.ensures.1 in
    rw (p.1, p.2) (to_err c.in_err-block.field-0.0
    (after_block c.args.model.now (ctl_of c.args.formula.now) c.in_ok-outcome.field-0.proof
    c.in_ok-outcome.ensures.call c.in_ok-outcome.ensures.few
    c.in_err-block.ensures.call c.release.ensures.pins c.release.ensures.fulls))

pub returns-clause-call : goal.returns-clause-call
returns-clause-call c =
    to_ok _
    (after_block c.args.model.now (ctl_of c.args.formula.now) c.in_ok-outcome.field-0.proof
    c.in_ok-outcome.ensures.call c.in_ok-outcome.ensures.few
    c.in_ok-block.ensures.call c.release.ensures.pins c.release.ensures.fulls)
