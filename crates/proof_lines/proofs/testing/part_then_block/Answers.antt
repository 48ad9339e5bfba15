use Rattle.std.proofs.Common.{[], sym, ◌∙◌, ap, subst}
use Rattle.region_sets.specs.Ranks.{AreLive, regions, slots}
use Rattle.region_sets.proofs.Slots.{is_one_of-first}
use Rattle.fair_rules.specs.Claims.{join}
use Rattle.proof_form.specs.Form.{layer_sets}
use Rattle.proof_lines.proofs.CasesKept.{case_then, ends_then}
use Rattle.claim_sets.proofs.KeptProofs.{part_layers_live}
use Rattle.proof_lines.proofs.WholeTests.{part_ground, part_live, whole_before}
use Rattle.proof_lines.proofs.testing.part_then_block.Goals as goal

pub join_layers-requires : goal.join_layers-requires
join_layers-requires g c =
    subst (λ ls. AreLive (g.S.StateSets.seen c.args.sets.now) (slots (layer_sets ls))) (sym (c.deref.ensures.value ∙ ap (λ p. p.nonfair) c.part.view_is))
    (part_layers_live (g.S.StateSets.seen c.args.sets.now) c.args.part.now (part_live c.args.case.now (g.S.StateSets.seen c.args.sets.now) c.requires.case c.args.part.now c.requires.part))

pub layered_lines-yes-requires-clause-case : goal.layered_lines-yes-requires-clause-case
layered_lines-yes-requires-clause-case g c = case_then (g.S.StateSets.seen c.args.sets.now) (g.S.StateSets.seen c.join_layers.new.sets) c.in_ok-nonfair.ensures.call.pins c.args.case.now c.requires.case

pub layered_lines-yes-requires-clause-ends : goal.layered_lines-yes-requires-clause-ends
layered_lines-yes-requires-clause-ends g c = ends_then (g.S.StateSets.seen c.args.sets.now) (g.S.StateSets.seen c.join_layers.new.sets) c.in_ok-nonfair.ensures.call.pins c.args.ends.now c.requires.ends

pub layered_lines-yes-requires-clause-ground : goal.layered_lines-yes-requires-clause-ground
layered_lines-yes-requires-clause-ground g c =
    let live = part_live c.args.case.now (g.S.StateSets.seen c.args.sets.now) c.requires.case c.args.part.now c.requires.part in
    let ends = ends_then (g.S.StateSets.seen c.args.sets.now) (g.S.StateSets.seen c.join_layers.new.sets) c.in_ok-nonfair.ensures.call.pins c.args.ends.now c.requires.ends in
    part_ground (g.S.StateSets.seen c.args.sets.now) (g.S.StateSets.seen c.join_layers.new.sets) c.args.ends.now c.in_ok-nonfair.nonfair c.args.part.now c.in_ok-nonfair.ensures.call.pins live ends.full_live ends.full
    (c.in_ok-nonfair.ensures.call.pins.there c.in_ok-nonfair.nonfair.slot (is_one_of-first c.in_ok-nonfair.nonfair.slot [])) (part_layers_live (g.S.StateSets.seen c.args.sets.now) c.args.part.now live)
    (c.in_ok-nonfair.ensures.set ∙ ap (λ ls. join (regions (g.S.StateSets.seen c.args.sets.now) (layer_sets ls))) (c.deref.ensures.value ∙ ap (λ p. p.nonfair) c.part.view_is))

pub returns-clause-tested : goal.returns-clause-tested
returns-clause-tested g c =
    whole_before c.args.case.now (g.S.StateSets.seen c.args.sets.now) c.requires.case (g.S.StateSets.seen c.join_layers.new.sets) c.in_ok-nonfair.ensures.call.pins c.args.line.now c.layered_lines-yes.result c.layered_lines-yes.new.line c.layered_lines-yes.ensures.tested
