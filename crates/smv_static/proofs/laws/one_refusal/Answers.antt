use Rattle.smv_static.proofs.OneRefusal.{breaks_one}
use Rattle.smv_static.proofs.laws.one_refusal.Goals as goal

pub returns : goal.returns
returns c = breaks_one
