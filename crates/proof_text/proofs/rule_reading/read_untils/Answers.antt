use Rattle.std.proofs.Common.{arith}
use Rattle.std.proofs.lemmas.Result.{err_from_is_err_and}
use Rattle.proof_text.proofs.Joined.{room_of, head_fault, body_fault, whole_found}
use Rattle.proof_text.proofs.SetForms.{until_join}
use Rattle.proof_text.proofs.rule_reading.read_untils.Goals as goal

pub returns-in_err-n : goal.returns-in_err-n
returns-in_err-n c =
    let p = err_from_is_err_and c.from_residual.result c.from_residual.ensures.1 in
    rw (p.1, p.2) (head_fault (until_join _ c.requires.some) c.in_err-n.ensures)

pub read_sets-requires-clause-room : goal.read_sets-requires-clause-room
read_sets-requires-clause-room c = omega (arith, c.requires.room, room_of c.in_ok-n.ensures)

pub returns-in_err-sets : goal.returns-in_err-sets
returns-in_err-sets c =
    let p = err_from_is_err_and c.from_residual-in_err-sets.result c.from_residual-in_err-sets.ensures.1 in
    rw (p.1, p.2) (body_fault (until_join _ c.requires.some) c.in_ok-n.ensures c.in_err-sets.ensures)

pub returns : goal.returns
returns c = whole_found (until_join _ c.requires.some) c.in_ok-n.ensures c.in_ok-sets.ensures
