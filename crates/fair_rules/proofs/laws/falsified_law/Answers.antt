use Rattle.kripke_model.proofs.WalkLemmas.{fair_walk}
use Rattle.fair_rules.proofs.Falsified.{falsified_false}
use Rattle.kripke_model.specs.Path.{at}
use Rattle.fair_rules.proofs.laws.falsified_law.Goals as goal

pub returns : goal.returns
returns c = λ p fair f. falsified_false c.args.model.now (at p) (fair_walk c.args.model.now p fair) f 0
