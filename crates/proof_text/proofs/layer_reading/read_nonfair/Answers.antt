use Rattle.std.proofs.Common.{arith}
use Rattle.std.proofs.lemmas.Result.{err_from_is_err_and}
use Rattle.proof_text.proofs.Joined.{room_of, head_fault, body_fault, whole_found}
use Rattle.proof_text.proofs.SetForms.{nonfair_join}
use Rattle.proof_text.proofs.layer_reading.read_nonfair.Goals as goal

pub returns-in_err-n : goal.returns-in_err-n
returns-in_err-n c =
    let p = err_from_is_err_and c.from_residual.result c.from_residual.ensures.1 in
    rw (p.1, p.2) (head_fault (nonfair_join _ _ c.requires.one c.requires.some) c.in_err-n.ensures)

pub read_layers-requires-clause-room : goal.read_layers-requires-clause-room
read_layers-requires-clause-room c = omega (arith, c.requires.room, room_of c.in_ok-n.ensures)

pub returns-in_err-layers : goal.returns-in_err-layers
returns-in_err-layers c =
    let p = err_from_is_err_and c.from_residual-in_err-layers.result c.from_residual-in_err-layers.ensures.1 in
    rw (p.1, p.2) (body_fault (nonfair_join _ _ c.requires.one c.requires.some) c.in_ok-n.ensures c.in_err-layers.ensures)

pub returns : goal.returns
returns c = whole_found (nonfair_join _ _ c.requires.one c.requires.some) c.in_ok-n.ensures c.in_ok-layers.ensures
