use Rattle.std.proofs.Common.{◌≡◌, ap, sym, ◌∙◌, ◌++◌, map}
use Rattle.std.proofs.lemmas.Result.{IfOk-weaker}
use Rattle.smv_parser.specs.ProgramView as programs
use Rattle.smv_instances.specs.Abstract as plain
use Rattle.smv_instances.specs.Plain.{plain_section}
use Rattle.smv_instantiate.specs.Flattens.{Item, section_items}
use Rattle.smv_instantiate.specs.Items.{plain_assigned, plain_item}
use Rattle.smv_instantiate.proofs.TypeSteps.{map-map}
use Rattle.smv_instantiate.proofs.items.push_section.Goals as goal

pub returns-in-Assignments : goal.returns-in-Assignments
returns-in-Assignments c =
    let same : map Item.Assigns (map plain_assigned c.deref.result.now) ≡ section_items (plain_section c.args.section.now) = rw (c.deref.ensures.value, c.in-Assignments.is) (ap (map Item.Assigns) (sym (map-map plain.assigned programs.assignment c.in-Assignments.assignments.items))) in
    IfOk-weaker c.push_assignments.result _ _ (λ x p. p ∙ ap (λ ys. map plain_item c.args.items.now.items ++ ys) same) c.push_assignments.ensures
