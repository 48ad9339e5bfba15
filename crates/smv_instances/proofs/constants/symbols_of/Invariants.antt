use Rattle.std.proofs.Common.{◌≡◌, List, flat_map, take}
use Rattle.smv_instances.specs.Instances.{Scope, distinct_names}
use Rattle.smv_instances.specs.Symbols.{body_atoms}
use Rattle.smv_instances.specs.Walk.{AreRows}
use Rattle.smv_instances.proofs.constants.symbols_of.Given as goal

abbrev pub invariant-loop-row : goal.invariant-loop-row
invariant-loop-row l = (done : List Scope) → AreRows l.modules l.rows done → l.symbols ≡ distinct_names (flat_map body_atoms (take l.row-index done))
