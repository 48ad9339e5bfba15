use Rattle.std.proofs.Common.{ap}
use Rattle.smv_names.proofs.NameNodes.{into_none, is_instance}
use Rattle.smv_names.proofs.walk.instance_number.Goals as goal

pub returns-in-Stored : goal.returns-in-Stored
returns-in-Stored c p s q front = into_none p s q c.args.target.now front (ap is_instance c.in-Stored.is)

pub returns-in-Reading : goal.returns-in-Reading
returns-in-Reading c p s q front = into_none p s q c.args.target.now front (ap is_instance c.in-Reading.is)

pub returns-in-Constant : goal.returns-in-Constant
returns-in-Constant c p s q front = into_none p s q c.args.target.now front (ap is_instance c.in-Constant.is)
