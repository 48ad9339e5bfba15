use Rattle.std.proofs.lemmas.Bool.{eqb-false}
use Rattle.bdd_quantify.proofs.Levels.{not_there}
use Rattle.bdd_quantify.proofs.level.names.Goals as goal

pub returns-clause-unnamed : goal.returns-clause-unnamed
returns-clause-unnamed c = λ e k inside. not_there c.args.levels.now c.args.from c.args.level c.requires.rise c.requires.passed c.requires.reached (eqb-false _ _ e) k inside
