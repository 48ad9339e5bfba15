use Rattle.std.proofs.Common.{◌≡◌, ◌≤◌, length, map, take}
use Rattle.std.specs.List.{list_any, filter_map}
use Rattle.kripke_model.specs.Evaluation.{distinct}
use Rattle.smv_instances.specs.Program.{Constant}
use Rattle.smv_instances.specs.Plain.{plain_constant}
use Rattle.smv_instances.specs.Instances.{atom, value_of}
use Rattle.smv_instances.specs.Constants.{holds, is_same}
use Rattle.smv_instances.proofs.types.constant_count.Given as goal

abbrev pub invariant-loop-constant : goal.invariant-loop-constant
invariant-loop-constant l =
    record {
      few : l.count ≤ l.constant-index;
      counted : l.count ≡ length (distinct (map (value_of (filter_map atom (map plain_constant l.constants))) (take l.constant-index (map plain_constant l.constants))));
      held : (d : Constant) → holds l.names l.numbers.keys d ≡ list_any (is_same d) (take l.constant-index (map plain_constant l.constants));
    }
