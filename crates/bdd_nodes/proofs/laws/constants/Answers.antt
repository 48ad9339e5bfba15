use Rattle.bdd_nodes.proofs.Tables.{value_of-false, value_of-true}
use Rattle.bdd_nodes.proofs.laws.constants.Goals as goal

pub returns-clause-always_false : goal.returns-clause-always_false
returns-clause-always_false c = value_of-false c.args.store.now.nodes.keys

pub returns-clause-always_true : goal.returns-clause-always_true
returns-clause-always_true c = value_of-true c.args.store.now.nodes.keys
