use Rattle.std.proofs.Common.{arith}
use Rattle.std.proofs.lemmas.Result.{err_from_is_err_and}
use Rattle.delay_bounds.specs.Pinned.{proof_slots}
use Rattle.fair_fixpoint.proofs.Lists.{to_err}
use Rattle.path_laws.specs.StateCount.{state_count}
use Rattle.smv_session.proofs.Ready.{all_released}
use Rattle.smv_session.proofs.delaying.find_delays.Goals as goal

pub returns-in_err-proof-clause-call : goal.returns-in_err-proof-clause-call
returns-in_err-proof-clause-call c =
    let p = err_from_is_err_and c.from_residual.result
    c.from_residual.ensures.1 in
    rw (p.1, p.2) (to_err c.in_err-proof.field-0.0
    (c.in_err-proof.ensures.call (state_count c.args.model.now) (omega arith)))

pub release-requires-clause-live : goal.release-requires-clause-live
release-requires-clause-live c =
    (c.in_ok-proof.ensures.call (state_count c.args.model.now) (omega arith)).pins.there

pub release-requires-clause-once : goal.release-requires-clause-once
release-requires-clause-once c =
    (c.in_ok-proof.ensures.call (state_count c.args.model.now) (omega arith)).pins.once

pub returns-clause-call : goal.returns-clause-call
returns-clause-call c =
    all_released (proof_slots c.in_ok-proof.proof) _
    (c.in_ok-proof.ensures.call (state_count c.args.model.now) (omega arith))
    c.release.ensures.pins c.release.ensures.fulls
