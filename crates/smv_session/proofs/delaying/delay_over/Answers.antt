use Rattle.std.proofs.Common.{◌+◌, ◌*◌}
use Rattle.path_laws.specs.StateCount.{state_count}
use Rattle.smv_session.proofs.Budget.{delays_fit}
use Rattle.smv_session.proofs.Ready.{met_by}
use Rattle.smv_session.proofs.Tried.{left_delays}
use Rattle.smv_session.proofs.delaying.delay_over.Goals as goal

pub returns-in-Ok : goal.returns-in-Ok
returns-in-Ok c =
    c.delayed.ensures c.args.model.now c.args.limit c.in-Ok.ensures.found

pub returns-in-Err-Full : goal.returns-in-Err-Full
returns-in-Err-Full c =
    let m = c.args.model.now in
    let call = rw c.in-Err-Full.field-0-is at c.in-Err-Full.ensures.call in
    left_delays m c.args.limit c.args.from c.args.to c.unknown_delays.result
    (c.unknown_delays.ensures m
    (met_by m c.args.limit (6 * state_count m + 32) (delays_fit m c.state_count_law.ensures) _ _
    c.requires.ready _ call))
