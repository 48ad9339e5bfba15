use Rattle.std.proofs.Common.{subst, Option}
use Rattle.smv_names.specs.declared.targets.Target.{Target as Held}
use Rattle.smv_names.specs.Targets.{LeadsTo}
use Rattle.smv_names.proofs.walk.known_outcome.Goals as goal

pub returns-in-None : goal.returns-in-None
returns-in-None c p states s x leads = subst (λ (o : Option Held). LeadsTo p s x o) c.in-None.is leads
