use Rattle.std.proofs.Common.{sym, ◌∙◌}
use Rattle.smv_names.specs.Ends.{IsEnd}
use Rattle.smv_names.proofs.TextLemmas.{numbered_within}
use Rattle.smv_instantiate.specs.declared.expansion.End.{End}
use Rattle.smv_instantiate.proofs.Members.{not_some}
use Rattle.smv_instantiate.proofs.PathSteps.{end_of_node, written_end}
use Rattle.smv_instantiate.proofs.expansion.node_end.Goals as goal

pub text_at-requires : goal.text_at-requires
text_at-requires c =
    let h = c.requires in
    let p = h.0 in
    let end : IsEnd p h.1 h.2 c.index.result.now = end_of_node p c.args.node h.1 h.2 c.args.paths.now.ends.items c.index.result.now h.3.ends_are h.3.end_count h.3.defined h.4 c.index.ensures in
    (p, h.3.targets_are, numbered_within p c.index.result.now end.text.abbreviation end.text.numbered)

pub unreachable-requires : goal.unreachable-requires
unreachable-requires c =
    let h = c.requires in
    let p = h.0 in
    let end : IsEnd p h.1 h.2 c.index.result.now = end_of_node p c.args.node h.1 h.2 c.args.paths.now.ends.items c.index.result.now h.3.ends_are h.3.end_count h.3.defined h.4 c.index.ensures in
    not_some (sym (c.in-None.ensures.none p end.text.abbreviation h.3.targets_are end.text.numbered) ∙ end.text.text)

pub returns : goal.returns
returns c = λ p s e paths text.
    let end : IsEnd p s e c.index.result.now = end_of_node p c.args.node s e c.args.paths.now.ends.items c.index.result.now paths.ends_are paths.end_count paths.defined text c.index.ensures in
    written_end p s e c.index.result.now (let made : End = record { home = c.in-Some.home; right = c.in-Some.right } in made) end (c.in-Some.ensures.some p end.text.abbreviation paths.targets_are end.text.numbered)
