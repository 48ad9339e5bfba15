use Rattle.std.proofs.Common.{refl, arith}
use Rattle.std.proofs.lemmas.Result.{err_from_is_err_and}
use Rattle.proof_text.proofs.FoundEntries.{last_fault, ending_read}
use Rattle.proof_text.proofs.Joined.{room_of}
use Rattle.proof_text.proofs.main_reading.read_ending.Goals as goal

pub returns-in_err-entries : goal.returns-in_err-entries
returns-in_err-entries c =
    let p = err_from_is_err_and c.from_residual.result c.from_residual.ensures.1 in
    rw (p.1, p.2) (c.in_err-entries.ensures.fault c.args.claim)

pub read_end-requires : goal.read_end-requires
read_end-requires c = omega (arith, c.requires.room, room_of c.in_ok-entries.ensures.all.0)

pub returns-in_err-at : goal.returns-in_err-at
returns-in_err-at c =
    let p = err_from_is_err_and c.from_residual-in_err-at.result c.from_residual-in_err-at.ensures.1 in
    rw (p.1, p.2) (last_fault _ _ _ _ refl c.in_ok-entries.ensures.all.0 c.rules_law.ensures.flat c.requires.few_nodes c.args.claim c.in_ok-entries.ensures.all.1 c.in_err-at.ensures)

pub returns : goal.returns
returns c = ending_read _ _ _ _ refl c.in_ok-entries.ensures.all.0 c.in_ok-at.ensures
