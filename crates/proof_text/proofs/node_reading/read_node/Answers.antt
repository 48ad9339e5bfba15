use Rattle.proof_text.proofs.FoundNodes.{node_ends, no_node, node_refused}
use Rattle.proof_text.proofs.node_reading.read_node.Goals as goal

pub returns-in_default-clause-found : goal.returns-in_default-clause-found
returns-in_default-clause-found c = node_ends c.args.levels c.args.table.now.keys c.in_default.ensures

pub returns-in_default-node_in-clause-found : goal.returns-in_default-node_in-clause-found
returns-in_default-node_in-clause-found c = no_node c.args.levels c.args.table.now.keys _ c.in-Some.ensures c.line-line.ensures c.in_default-node_in.ensures

pub returns-in-Err-clause-found : goal.returns-in-Err-clause-found
returns-in-Err-clause-found c =
    node_refused c.args.levels c.args.table.now.keys c.in-Some.ensures _ c.line-line.ensures _ c.in-Some-node_in.ensures.0 c.in-Some-node_in.ensures.1 _ _ c.in-Err.ensures
