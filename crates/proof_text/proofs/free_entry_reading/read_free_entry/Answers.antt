use Rattle.std.proofs.Common.{inr, arith}
use Rattle.std.proofs.lemmas.Result.{err_from_is_err_and}
use Rattle.proof_text.proofs.FreeForms.{free_entry_join, free_head_fault}
use Rattle.proof_text.proofs.Joined.{room_of, body_fault, whole_found}
use Rattle.proof_text.proofs.free_entry_reading.read_free_entry.Goals as goal

pub returns-in_err-head : goal.returns-in_err-head
returns-in_err-head c =
    let p = err_from_is_err_and c.from_residual.result c.from_residual.ensures.1 in
    rw (p.1, p.2) (free_head_fault _ c.rules_law.ensures.flat _ c.requires.some _ c.in_err-head.ensures)

pub read_body-requires-clause-room : goal.read_body-requires-clause-room
read_body-requires-clause-room c = omega (arith, c.requires.room, room_of c.in_ok-head.ensures)

pub returns-in_err-rule : goal.returns-in_err-rule
returns-in_err-rule c =
    let p = err_from_is_err_and c.from_residual-in_err-rule.result c.from_residual-in_err-rule.ensures.1 in
    rw (p.1, p.2) (inr (body_fault (free_entry_join _ c.rules_law.ensures.flat _ c.requires.some _) c.in_ok-head.ensures c.in_err-rule.ensures))

pub returns : goal.returns
returns c = whole_found (free_entry_join _ c.rules_law.ensures.flat _ c.requires.some _) c.in_ok-head.ensures c.in_ok-rule.ensures
