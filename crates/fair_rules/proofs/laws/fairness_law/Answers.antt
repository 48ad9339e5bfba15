use Rattle.fair_rules.proofs.Theorems.{no_fair_path, fair_path, fair_exact}
use Rattle.fair_rules.proofs.laws.fairness_law.Goals as goal

pub returns-clause-nonfair : goal.returns-clause-nonfair
returns-clause-nonfair c = no_fair_path c.args.model.now

pub returns-clause-fair : goal.returns-clause-fair
returns-clause-fair c = fair_path c.args.model.now

pub returns-clause-exact : goal.returns-clause-exact
returns-clause-exact c = fair_exact c.args.model.now
