use Rattle.std.proofs.Common.{◌∙◌, ap, sym, ◌++◌, map, flat_map}
use Rattle.smv_parser.specs.ProgramView as programs
use Rattle.smv_instances.specs.Abstract as plain
use Rattle.smv_instances.specs.Plain.{plain_formal, plain_section}
use Rattle.smv_instances.specs.Entries.{of_formal, of_section}
use Rattle.smv_instances.specs.Numbered.{plain_entry}
use Rattle.smv_instances.proofs.ListSteps.{map_map}
use Rattle.smv_instances.proofs.entries.entries_of.Goals as goal

pub returns : goal.returns
returns c =
    c.in_ok-push_sections.ensures
    ∙ ap (λ ys. ys ++ flat_map of_section (map plain_section c.deref-2.result.now)) (c.in_ok-push_formals.ensures ∙ ap (λ es. map plain_entry es ++ map of_formal (map plain_formal c.deref.result.now)) c.new-entries.ensures.items)
    ∙ rw (c.deref.ensures.value, c.deref-2.ensures.value) (ap (λ ys. map of_formal ys ++ flat_map of_section (map plain_section c.args.source.now.sections.items)) (sym (map_map plain.formal programs.formal c.args.source.now.formals.items)) ∙ ap (λ ys. map of_formal (map plain.formal (map programs.formal c.args.source.now.formals.items)) ++ flat_map of_section ys) (sym (map_map plain.section programs.section c.args.source.now.sections.items)))
