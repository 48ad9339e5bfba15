use Rattle.std.proofs.Common.{arith}
use Rattle.std.proofs.lemmas.Result.{err_from_is_err_and}
use Rattle.proof_text.proofs.BlockForms.{first_of_block, rest_of_block, block_found}
use Rattle.proof_text.proofs.block_reading.read_block.Goals as goal

pub returns-in_err-head : goal.returns-in_err-head
returns-in_err-head c =
    let p = err_from_is_err_and c.from_residual.result c.from_residual.ensures.1 in
    rw (p.1, p.2) (first_of_block c.args.model.now c.args.earlier.now c.last_spec.result _ c.last_spec.ensures c.requires.place c.rules_law.ensures.flat (c.in_err-head.ensures c.args.levels))

pub formula_at-formula-requires : goal.formula_at-formula-requires
formula_at-formula-requires c = (c.in_ok-head.ensures c.args.levels).finds.read.fits.0

pub read_rest-requires-clause-room : goal.read_rest-requires-clause-room
read_rest-requires-clause-room c = omega (arith, c.requires.room, (c.in_ok-head.ensures c.args.levels).room)

pub returns-in_err-nodes : goal.returns-in_err-nodes
returns-in_err-nodes c =
    let p = err_from_is_err_and c.from_residual-in_err-nodes.result c.from_residual-in_err-nodes.ensures.1 in
    rw (p.1, p.2) (rest_of_block c.args.model.now c.args.earlier.now c.last_spec.result _ c.last_spec.ensures c.requires.place c.rules_law.ensures.flat _ c.formula_at-formula.ensures (c.in_ok-head.ensures c.args.levels) c.in_err-nodes.ensures)

pub returns : goal.returns
returns c =
    block_found c.args.model.now c.args.earlier.now c.last_spec.result c.line-first.result c.last_spec.ensures (rw c.line-first.ensures c.requires.place) c.rules_law.ensures.flat _ c.formula_at-formula.ensures (c.in_ok-head.ensures c.args.levels) c.in_ok-nodes.ensures
