use Rattle.std.proofs.Common.{arith}
use Rattle.std.proofs.lemmas.Result.{err_from_is_err_and}
use Rattle.proof_text.proofs.Joined.{room_of, head_fault, body_fault, whole_found}
use Rattle.proof_text.proofs.RuleForms.{er_join}
use Rattle.proof_text.proofs.rule_reading.read_er.Goals as goal

pub returns-in_err-fair : goal.returns-in_err-fair
returns-in_err-fair c =
    let p = err_from_is_err_and c.from_residual.result c.from_residual.ensures.1 in
    rw (p.1, p.2) (head_fault (er_join c.args.count c.args.most) c.in_err-fair.ensures)

pub read_untils-requires-clause-room : goal.read_untils-requires-clause-room
read_untils-requires-clause-room c = omega (arith, c.requires.room, room_of c.in_ok-fair.ensures)

pub returns-in_err-untils : goal.returns-in_err-untils
returns-in_err-untils c =
    let p = err_from_is_err_and c.from_residual-in_err-untils.result c.from_residual-in_err-untils.ensures.1 in
    rw (p.1, p.2) (body_fault (er_join c.args.count c.args.most) c.in_ok-fair.ensures c.in_err-untils.ensures)

pub returns : goal.returns
returns c = whole_found (er_join c.args.count c.args.most) c.in_ok-fair.ensures c.in_ok-untils.ensures
