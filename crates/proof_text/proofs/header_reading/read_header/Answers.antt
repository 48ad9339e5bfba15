use Rattle.std.proofs.Common.{arith}
use Rattle.std.proofs.lemmas.Result.{err_from_is_err_and}
use Rattle.proof_text.proofs.FoundHeader.{no_version, header_found}
use Rattle.proof_text.proofs.Joined.{room_of}
use Rattle.proof_text.proofs.header_reading.read_header.Goals as goal

pub returns-in_err-read_version : goal.returns-in_err-read_version
returns-in_err-read_version c =
    let p = err_from_is_err_and c.from_residual.result c.from_residual.ensures.1 in
    rw (p.1, p.2) (λ levels. no_version c.args.model.now levels _ c.in_err-read_version.ensures)

pub read_order-requires : goal.read_order-requires
read_order-requires c = omega (arith, c.requires, room_of c.in_ok-read_version.ensures)

pub returns : goal.returns
returns c = λ levels. header_found c.args.model.now levels _ c.in_ok-read_version.ensures c.read_order.ensures
