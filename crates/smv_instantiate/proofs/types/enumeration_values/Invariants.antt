use Rattle.std.proofs.Common.{◌≡◌, map, take}
use Rattle.kripke_model.specs.Evaluation.{distinct}
use Rattle.smv_instances.specs.Plain.{plain_constant}
use Rattle.smv_instances.specs.Instances.{value_of}
use Rattle.smv_instantiate.proofs.types.enumeration_values.Given as goal

-- the values of the constants so far, each once
abbrev pub invariant-loop-constant : goal.invariant-loop-constant
invariant-loop-constant l = l.values.items ≡ distinct (map (λ c. value_of l.symbols (plain_constant c)) (take l.constant-index l.constants))
