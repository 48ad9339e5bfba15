use Rattle.strong_export.specs.Finding.{strong_pins}
use Rattle.smv_session.proofs.Budget.{strong_fits}
use Rattle.smv_session.proofs.Ready.{met_by}
use Rattle.smv_session.proofs.Tried.{left_strong}
use Rattle.smv_session.proofs.compassion.find_over.Goals as goal

pub returns-in-Ok : goal.returns-in-Ok
returns-in-Ok c = λ numbers are.
    c.tell.ensures c.args.limit numbers c.args.pairs.now are c.in-Ok.ensures.found

pub returns-in-Err-Full : goal.returns-in-Err-Full
returns-in-Err-Full c = λ numbers are.
    let m = c.args.model.now in
    let call = rw c.in-Err-Full.field-0-is at c.in-Err-Full.ensures.call in
    left_strong m c.args.limit numbers c.unknown_strong.result
    (c.unknown_strong.ensures m
    (met_by m c.args.limit (strong_pins m) (strong_fits m c.state_count_law.ensures) _ _
    c.requires.ready _ call))
