use Rattle.path_laws.proofs.Extension.{runs_extend}
use Rattle.path_laws.proofs.laws.runs_extend_law.Goals as goal

pub returns : goal.returns
returns c = record { extend = runs_extend c.args.model.now c.requires.live c.requires.none }
