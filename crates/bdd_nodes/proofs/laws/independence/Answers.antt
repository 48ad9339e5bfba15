use Rattle.std.proofs.Common.{arith}
use Rattle.bdd_nodes.proofs.Canonical.{value_of-set}
use Rattle.bdd_nodes.proofs.laws.independence.Goals as goal

pub returns : goal.returns
returns c = λ l bit bits h. value_of-set c.args.store.now.levels c.args.store.now.nodes.keys c.args.store.now.good bits l bit c.args.r c.args.r (omega arith) c.requires h
