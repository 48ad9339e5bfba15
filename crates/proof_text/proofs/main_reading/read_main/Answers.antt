use Rattle.std.proofs.Common.{arith}
use Rattle.std.proofs.lemmas.Result.{err_from_is_err_and}
use Rattle.proof_text.proofs.Joined.{room_of}
use Rattle.proof_text.proofs.ReadMain.{main_layers_fault, main_fair_fault, main_ending_fault, main_found}
use Rattle.proof_text.proofs.main_reading.read_main.Goals as goal

pub returns-in_err-nonfair : goal.returns-in_err-nonfair
returns-in_err-nonfair c =
    let p = err_from_is_err_and c.from_residual.result c.from_residual.ensures.1 in
    rw (p.1, p.2) (main_layers_fault _ c.rules_law.ensures.flat _ c.requires.few_nodes c.args.claim _ c.requires.some _ c.constraint_count-count.ensures.is c.in_err-nonfair.ensures)

pub read_fair-requires-clause-room : goal.read_fair-requires-clause-room
read_fair-requires-clause-room c = omega (arith, c.requires.room, room_of c.in_ok-nonfair.ensures)

pub returns-in_err-fair : goal.returns-in_err-fair
returns-in_err-fair c =
    let p = err_from_is_err_and c.from_residual-in_err-fair.result c.from_residual-in_err-fair.ensures.1 in
    rw (p.1, p.2) (main_fair_fault _ c.rules_law.ensures.flat _ c.requires.few_nodes c.args.claim _ c.requires.some _ c.constraint_count-count.ensures.is c.in_ok-nonfair.ensures c.in_err-fair.ensures)

pub read_ending-requires-clause-room : goal.read_ending-requires-clause-room
read_ending-requires-clause-room c = omega (arith, c.requires.room, room_of c.in_ok-nonfair.ensures, room_of c.in_ok-fair.ensures)

pub returns-in_err-entries : goal.returns-in_err-entries
returns-in_err-entries c =
    let p = err_from_is_err_and c.from_residual-in_err-entries.result c.from_residual-in_err-entries.ensures.1 in
    rw (p.1, p.2) (main_ending_fault _ c.rules_law.ensures.flat _ c.requires.few_nodes c.args.claim _ c.requires.some _ c.constraint_count-count.ensures.is c.in_ok-nonfair.ensures c.in_ok-fair.ensures c.in_err-entries.ensures)

pub returns : goal.returns
returns c = main_found _ c.rules_law.ensures.flat _ c.requires.few_nodes c.args.claim _ c.requires.some _ c.constraint_count-count.ensures.is c.in_ok-nonfair.ensures c.in_ok-fair.ensures c.in_ok-entries.ensures
