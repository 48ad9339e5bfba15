use Rattle.std.proofs.Common.{◌&&◌, map, take, not, IsTrue}
use Rattle.std.specs.List.{list_any}
use Rattle.std.specs.Str.{bytes_eq}
use Rattle.kripke_model.specs.Refusing.{Silent, first_of, refuse}
use Rattle.kripke_model.specs.declared.refusals.FlatRefusal.{FlatRefusal}
use Rattle.smv_instances.specs.Declarations.{is_parameter}
use Rattle.smv_instances.specs.Numbered.{plain_entry}
use Rattle.smv_instances.proofs.constants.check_constants.Given as goal

abbrev pub invariant-loop-entry : goal.invariant-loop-entry
invariant-loop-entry l = Silent (first_of (take l.entry-index (map plain_entry l.entries)) (λ e. refuse (FlatRefusal.NameIsConstant e.line) (IsTrue (not (is_parameter e.entity) && list_any (bytes_eq e.name) l.symbols))))
