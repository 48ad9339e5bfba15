use Rattle.std.proofs.Common.{arith}
use Rattle.std.proofs.lemmas.Result.{err_from_is_err_and}
use Rattle.proof_checker.proofs.Rooms.{no_room_more}
use Rattle.proof_checker.proofs.blocks.test_nodes.Goals as goal

pub returns-in_err-sets-clause-refused : goal.returns-in_err-sets-clause-refused
returns-in_err-sets-clause-refused g c lines le =
    let p = err_from_is_err_and c.from_residual.result c.from_residual.ensures.1 in
    rw (p.1, p.2) (no_room_more c.args.given.now.model.now c.args.limit lines c.in_err-sets.field-0.0 (omega (arith, le)) c.in_err-sets.ensures.refused)

pub returns-clause-kept : goal.returns-clause-kept
returns-clause-kept g c =
    let given = c.args.given.now in
    c.keep.ensures given.model.now given.order.now c.args.limit c.tested_over-after.ensures.clear c.take.ensures.kept
