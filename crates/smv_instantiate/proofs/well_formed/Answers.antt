use Rattle.smv_instantiate.proofs.DeclaredLemmas.{few_symbols}
use Rattle.smv_instantiate.proofs.FlatLemmas.{is_flat}
use Rattle.smv_instantiate.proofs.Silence.{silent_first}
use Rattle.smv_instantiate.proofs.well_formed.Goals as goal

pub returns-clause-flat : goal.returns-clause-flat
returns-clause-flat c p m written silent flat = is_flat p silent written m flat

pub returns-clause-symbols : goal.returns-clause-symbols
returns-clause-symbols c p written silent = few_symbols p (silent_first silent) written
