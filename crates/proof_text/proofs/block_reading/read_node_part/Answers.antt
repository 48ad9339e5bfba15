use Rattle.std.proofs.Common.{arith}
use Rattle.std.proofs.lemmas.Result.{err_from_is_err_and}
use Rattle.proof_text.proofs.BlockForms.{nodes_join, first_over, last_over, both_over}
use Rattle.proof_text.proofs.Joined.{room_of}
use Rattle.proof_text.proofs.block_reading.read_node_part.Goals as goal

pub returns-in_err-count : goal.returns-in_err-count
returns-in_err-count c =
    let p = err_from_is_err_and c.from_residual.result c.from_residual.ensures.1 in
    rw (p.1, p.2) (first_over nodes_join (c.in_err-count.ensures c.args.levels))

pub read_nodes-requires : goal.read_nodes-requires
read_nodes-requires c = omega (arith, c.requires, room_of c.in_ok-count.ensures)

pub returns-in_err-nodes : goal.returns-in_err-nodes
returns-in_err-nodes c =
    let p = err_from_is_err_and c.from_residual-in_err-nodes.result c.from_residual-in_err-nodes.ensures.1 in
    rw (p.1, p.2) (last_over nodes_join (c.in_ok-count.ensures c.args.levels) c.in_err-nodes.ensures)

pub returns : goal.returns
returns c = both_over nodes_join (c.in_ok-count.ensures c.args.levels) c.in_ok-nodes.ensures
