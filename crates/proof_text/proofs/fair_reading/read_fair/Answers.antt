use Rattle.std.proofs.Common.{arith}
use Rattle.std.proofs.lemmas.Result.{err_from_is_err_and}
use Rattle.proof_text.proofs.Joined.{room_of, head_fault, body_fault, whole_found}
use Rattle.proof_text.proofs.SetForms.{fair_join}
use Rattle.proof_text.proofs.fair_reading.read_fair.Goals as goal

pub returns-in_err-inside : goal.returns-in_err-inside
returns-in_err-inside c =
    let p = err_from_is_err_and c.from_residual.result c.from_residual.ensures.1 in
    rw (p.1, p.2) (head_fault (fair_join c.args.count c.args.most) c.in_err-inside.ensures)

pub read_reaches-requires-clause-room : goal.read_reaches-requires-clause-room
read_reaches-requires-clause-room c = omega (arith, c.requires.room, room_of c.in_ok-inside.ensures)

pub returns-in_err-reach : goal.returns-in_err-reach
returns-in_err-reach c =
    let p = err_from_is_err_and c.from_residual-in_err-reach.result c.from_residual-in_err-reach.ensures.1 in
    rw (p.1, p.2) (body_fault (fair_join c.args.count c.args.most) c.in_ok-inside.ensures c.in_err-reach.ensures)

pub returns : goal.returns
returns c = whole_found (fair_join c.args.count c.args.most) c.in_ok-inside.ensures c.in_ok-reach.ensures
