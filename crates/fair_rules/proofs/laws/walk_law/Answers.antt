use Rattle.fair_rules.proofs.WalkLaw.{walk_law_at}
use Rattle.fair_rules.specs.Nodes.{node_at}
use Rattle.kripke_model.specs.WellFormed.{ctl_of}
use Rattle.fair_rules.proofs.laws.walk_law.Goals as goal

pub returns : goal.returns
returns g c = walk_law_at c.args.model.now _ c.requires.walk (node_at (ctl_of c.args.formula.now) 1 c.args.node)
