use Rattle.std.proofs.Common.{arith}
use Rattle.std.proofs.lemmas.Result.{err_from_is_err_and}
use Rattle.proof_text.proofs.Joined.{room_of}
use Rattle.proof_text.proofs.ReadFree.{main_fault, free_ending_read}
use Rattle.proof_text.proofs.free_reading.read_free_ending.Goals as goal

pub returns-in_err-entries : goal.returns-in_err-entries
returns-in_err-entries c =
    let p = err_from_is_err_and c.from_residual.result c.from_residual.ensures.1 in
    rw (p.1, p.2) (c.in_err-entries.ensures.fault _ c.requires.few_nodes c.args.claim)

pub read_main-requires-clause-room : goal.read_main-requires-clause-room
read_main-requires-clause-room c = omega (arith, c.requires.room, room_of c.in_ok-entries.ensures.all.0)

pub returns-in_err-main : goal.returns-in_err-main
returns-in_err-main c =
    let p = err_from_is_err_and c.from_residual-in_err-main.result c.from_residual-in_err-main.ensures.1 in
    rw (p.1, p.2) (main_fault _ c.rules_law.ensures.flat _ c.requires.few_nodes c.args.claim _ c.requires.some c.in_ok-entries.ensures.all.0 c.in_ok-entries.ensures.all.1 c.in_err-main.ensures)

pub returns : goal.returns
returns c = free_ending_read _ c.rules_law.ensures.flat _ c.requires.few_nodes c.args.claim _ c.requires.some c.in_ok-entries.ensures.all.0 c.in_ok-main.ensures
