use Rattle.std.proofs.Common.{◌≡◌, ap, sym, ◌∙◌, ◌++◌, map}
use Rattle.std.proofs.lemmas.Result.{IfOk-weaker}
use Rattle.smv_parser.specs.ProgramView as programs
use Rattle.smv_instances.specs.Abstract as plain
use Rattle.smv_instances.specs.Plain.{plain_declaration, plain_definition, plain_section}
use Rattle.smv_instances.specs.Entries.{of_declaration, of_definition, of_section}
use Rattle.smv_instances.specs.Numbered.{plain_entry}
use Rattle.smv_instances.proofs.ListSteps.{map_map}
use Rattle.smv_instances.proofs.entries.push_section.Goals as goal

pub returns-in-Variables : goal.returns-in-Variables
returns-in-Variables c =
    let same : map of_declaration (map plain_declaration c.deref.result.now) ≡ of_section (plain_section c.args.section.now) = rw (c.deref.ensures.value, c.in-Variables.is) (ap (map of_declaration) (sym (map_map plain.declaration programs.declaration c.in-Variables.declarations.items))) in
    IfOk-weaker c.push_declarations.result _ _ (λ x p. p ∙ ap (λ ys. map plain_entry c.args.entries.now.items ++ ys) same) c.push_declarations.ensures

pub returns-in-Definitions : goal.returns-in-Definitions
returns-in-Definitions c =
    let same : map of_definition (map plain_definition c.deref-in-Definitions.result.now) ≡ of_section (plain_section c.args.section.now) = rw (c.deref-in-Definitions.ensures.value, c.in-Definitions.is) (ap (map of_definition) (sym (map_map plain.definition programs.definition c.in-Definitions.definitions.items))) in
    IfOk-weaker c.push_definitions.result _ _ (λ x p. p ∙ ap (λ ys. map plain_entry c.args.entries.now.items ++ ys) same) c.push_definitions.ensures
