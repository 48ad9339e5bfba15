use Rattle.fair_rules.proofs.FreePart.{free_constraint_sets}
use Rattle.fair_rules.proofs.laws.free_part_law.Goals as goal

pub returns : goal.returns
returns c = free_constraint_sets c.args.model.now
