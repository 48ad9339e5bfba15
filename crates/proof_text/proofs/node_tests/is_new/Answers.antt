use Rattle.proof_text.proofs.NodeTables.{new_or_there}
use Rattle.proof_text.proofs.node_tests.is_new.Goals as goal

pub returns : goal.returns
returns c = new_or_there c.args.nodes.now.keys _ c.args.node _ c.in_ok-yes.ensures.added c.in_ok-yes.ensures.keys
