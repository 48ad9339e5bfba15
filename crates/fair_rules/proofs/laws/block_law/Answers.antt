use Rattle.fair_rules.proofs.Blocks.{block_sound}
use Rattle.fair_rules.proofs.laws.block_law.Goals as goal

pub returns : goal.returns
returns c = block_sound c.args.model.now
