use Rattle.std.proofs.Common.{◌≡◌, ◌++◌, List, map, take}
use Rattle.std.specs.List.{filter_map}
use Rattle.smv_instances.specs.Program.{Name}
use Rattle.smv_instances.specs.Plain.{plain_constant}
use Rattle.smv_instances.specs.Instances.{atom, distinct_names}
use Rattle.smv_instances.proofs.constants.add_constants.Given as goal

abbrev pub invariant-loop-constant : goal.invariant-loop-constant
invariant-loop-constant l = (seen : List Name) → l.initial.symbols ≡ distinct_names seen → l.symbols ≡ distinct_names (seen ++ filter_map atom (map plain_constant (take l.constant-index l.constants)))
