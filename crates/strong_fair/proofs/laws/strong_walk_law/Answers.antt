use Rattle.strong_fair.proofs.Sound.{no_certificate}
use Rattle.strong_fair.proofs.laws.strong_walk_law.Goals as goal

pub returns : goal.returns
returns g c = no_certificate c.args.model.now c.args.pairs.now _ c.requires
