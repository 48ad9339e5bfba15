use Rattle.std.proofs.Common.{sym, ◌∙◌, ap, subst}
use Rattle.region_sets.specs.Ranks.{AreLive, slots}
use Rattle.proof_form.specs.Form.{layer_sets}
use Rattle.proof_lines.proofs.BlockClaims.{block_before, joined_then}
use Rattle.proof_lines.proofs.CasesKept.{case_then, ends_then, lists_then}
use Rattle.claim_sets.proofs.KeptProofs.{nonfair_live}
use Rattle.proof_lines.proofs.block_tests.own_block.Goals as goal

pub join_layers-requires : goal.join_layers-requires
join_layers-requires g c =
    subst (λ ls. AreLive (g.S.StateSets.seen c.args.sets.now) (slots (layer_sets ls))) (sym (c.deref.ensures.value ∙ ap (λ p. p.nonfair) c.proof.view_is)) (nonfair_live (g.S.StateSets.seen c.args.sets.now) c.args.case.now.proof.now c.requires.case.live)

pub claimed_lines-yes-requires-clause-case : goal.claimed_lines-yes-requires-clause-case
claimed_lines-yes-requires-clause-case g c = case_then (g.S.StateSets.seen c.args.sets.now) (g.S.StateSets.seen c.join_layers.new.sets) c.in_ok-nonfair.ensures.call.pins c.args.case.now c.requires.case

pub claimed_lines-yes-requires-clause-ends : goal.claimed_lines-yes-requires-clause-ends
claimed_lines-yes-requires-clause-ends g c = ends_then (g.S.StateSets.seen c.args.sets.now) (g.S.StateSets.seen c.join_layers.new.sets) c.in_ok-nonfair.ensures.call.pins c.args.ends.now c.requires.ends

pub claimed_lines-yes-requires-clause-lists : goal.claimed_lines-yes-requires-clause-lists
claimed_lines-yes-requires-clause-lists g c =
    lists_then (g.S.StateSets.seen c.args.sets.now) (g.S.StateSets.seen c.join_layers.new.sets) c.in_ok-nonfair.ensures.call.pins c.args.case.now.model.now c.args.lists.now c.requires.lists

pub claimed_lines-yes-requires-clause-nonfair : goal.claimed_lines-yes-requires-clause-nonfair
claimed_lines-yes-requires-clause-nonfair g c =
    joined_then (g.S.StateSets.seen c.args.sets.now) (g.S.StateSets.seen c.join_layers.new.sets) c.args.case.now c.in_ok-nonfair.nonfair c.deref.result.now c.requires.case c.in_ok-nonfair.ensures.call.pins
    (c.deref.ensures.value ∙ ap (λ p. p.nonfair) c.proof.view_is) c.in_ok-nonfair.ensures.set

pub returns-clause-tested : goal.returns-clause-tested
returns-clause-tested g c =
    block_before c.args.case.now (g.S.StateSets.seen c.args.sets.now) (g.S.StateSets.seen c.join_layers.new.sets) c.args.lists.now c.requires.case c.in_ok-nonfair.ensures.call.pins c.requires.lists.live c.args.line.now
    c.claimed_lines-yes.result c.claimed_lines-yes.new.line c.claimed_lines-yes.ensures.tested
