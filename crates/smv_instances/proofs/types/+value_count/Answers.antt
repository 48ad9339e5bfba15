use Rattle.std.proofs.Common.{◌≡◌, ◌∙◌, ap, sym, map}
use Rattle.std.proofs.lemmas.Result.{IfOk-weaker}
use Rattle.smv_parser.specs.ProgramView as programs
use Rattle.smv_instances.specs.Program.{Plain}
use Rattle.smv_instances.specs.Abstract as plain
use Rattle.smv_instances.specs.Plain.{plain_constant, plain_type}
use Rattle.smv_instances.specs.Declarations.{value_count}
use Rattle.smv_instances.proofs.ListSteps.{map_map}
use Rattle.smv_instances.proofs.types.+value_count.Goals as goal

pub returns-in-Enumeration : goal.returns-in-Enumeration
returns-in-Enumeration t c =
    let same : Plain.Enumeration (map plain_constant c.deref.result.now) ≡ plain_type c.args.plain.now = rw (c.deref.ensures.value, c.in-Enumeration.is) (ap Plain.Enumeration (sym (map_map plain.constant programs.constant c.in-Enumeration.constants.items))) in
    IfOk-weaker c.constant_count.result _ _ (λ n p. p ∙ ap value_count same) c.constant_count.ensures
