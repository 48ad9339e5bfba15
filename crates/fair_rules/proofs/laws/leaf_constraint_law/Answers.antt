use Rattle.fair_rules.proofs.LeafSets.{leaf_constraint_sets}
use Rattle.fair_rules.proofs.laws.leaf_constraint_law.Goals as goal

pub returns : goal.returns
returns c = leaf_constraint_sets c.args.model.now c.requires
