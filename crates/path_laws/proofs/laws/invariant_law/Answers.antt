use Rattle.path_laws.proofs.Extension.{runs_extend}
use Rattle.path_laws.proofs.Invariant.{invariant_exact, invariant_decided}
use Rattle.path_laws.proofs.laws.invariant_law.Goals as goal

pub returns-clause-exact : goal.returns-clause-exact
returns-clause-exact c = invariant_exact c.args.model.now (runs_extend c.args.model.now c.requires.live c.requires.none)

pub returns-clause-decided : goal.returns-clause-decided
returns-clause-decided c = invariant_decided c.args.model.now (runs_extend c.args.model.now c.requires.live c.requires.none)
