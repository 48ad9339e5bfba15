use Rattle.std.proofs.Common.{ap, sym, ◌∙◌, map, flat_map}
use Rattle.smv_parser.specs.ProgramView as programs
use Rattle.smv_instances.specs.Abstract as plain
use Rattle.smv_instances.specs.Plain.{plain_section}
use Rattle.smv_instantiate.specs.Flattens.{section_items}
use Rattle.smv_instantiate.proofs.TypeSteps.{map-map, taken_all}
use Rattle.smv_instantiate.proofs.items.items_of.Goals as goal

pub returns : goal.returns
returns c = c.loop-section.invariant
    ∙ ap (λ ss. flat_map section_items (map plain_section ss)) (taken_all c.deref-section-items.result.now c.loop-section.section-index c.loop-section-test.false)
    ∙ ap (λ ss. flat_map section_items (map plain_section ss)) c.deref-section-items.ensures.value
    ∙ ap (flat_map section_items) (sym (map-map plain.section programs.section c.args.source.now.sections.items))
