-- The plain types of what lies in memory, by their kinds.
use Rattle.std.proofs.Common.{◌≡◌, List, map}
use Rattle.smv_parser.specs.declared.program.Constant.{Constant}
use Rattle.smv_parser.specs.declared.program.PlainKind.{PlainKind}
use Rattle.smv_parser.specs.ProgramView as programs
use Rattle.smv_instances.specs.Abstract as plain
use Rattle.smv_instances.specs.Program.{Plain}
use Rattle.smv_instances.specs.Plain.{plain_constant}
use Rattle.smv_instantiate.proofs.TypeSteps.{map-map}

abbrev pub kind_type : PlainKind → Plain
kind_type k = plain.plain_form (programs.plain_form k)

pub constants_plain : (constants : List Constant) → map plain.constant (map programs.constant constants) ≡ map plain_constant constants
constants_plain constants = map-map plain.constant programs.constant constants
