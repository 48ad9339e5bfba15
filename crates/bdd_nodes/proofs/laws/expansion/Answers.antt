use Rattle.bdd_nodes.proofs.Tables.{value_of-node}
use Rattle.bdd_nodes.proofs.laws.expansion.Goals as goal

pub returns : goal.returns
returns c = λ t e bits. value_of-node c.args.store.now.levels c.args.store.now.nodes.keys bits c.args.store.now.good c.args.r t e
