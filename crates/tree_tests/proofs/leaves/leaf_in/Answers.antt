use Rattle.std.proofs.Common.{ap}
use Rattle.kripke_model.specs.Reading.{term_of}
use Rattle.kripke_model.specs.WellFormed.{ctl_of}
use Rattle.fair_fixpoint.proofs.Visited.{leaf_is}
use Rattle.tree_tests.proofs.leaves.leaf_in.Goals as goal

pub returns-in-Leaf : goal.returns-in-Leaf
returns-in-Leaf c =
    leaf_is c.args.model.now (term_of c.in-Leaf.expr) (ctl_of c.args.formula.now) (ap ctl_of c.in-Leaf.is) c.requires
