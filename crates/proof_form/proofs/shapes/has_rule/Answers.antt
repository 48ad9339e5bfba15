use Rattle.std.proofs.Common.{◌≡◌, ◌↔◌, inl, inr, ◌-◌, get_or, length, ◌∙◌, ap, arith}
use Rattle.std.proofs.lemmas.Bool.{false≢true}
use Rattle.kripke_model.specs.WellFormed.{ctl_of}
use Rattle.proof_form.specs.Preorder.{node_view}
use Rattle.proof_form.specs.RuleTable.{IsOfNode}
use Rattle.proof_form.specs.Shape.{HasRule}
use Rattle.proof_form.proofs.RuleAt.{other_number, rule_there}
use Rattle.proof_form.proofs.shapes.has_rule.Goals as goal

pub returns-then-number-eq0 : goal.returns-then-number-eq0
returns-then-number-eq0 g c =
    let same : c.entry.inside.node ≡ c.args.entry.now.node = λ i. (c.entry.view_is i).node in (
      λ h. absurd (false≢true h),
      λ h. absurd (other_number (ctl_of c.args._formula.now) c.args.nodes.now c.args.entry.now c.requires (inl (omega (arith, same, c.if-number-eq0.true))) h),
    )

pub returns-then-number-nodes : goal.returns-then-number-nodes
returns-then-number-nodes g c =
    let same : c.entry.inside.node ≡ c.args.entry.now.node = λ i. (c.entry.view_is i).node in (
      λ h. absurd (false≢true h),
      λ h. absurd (other_number (ctl_of c.args._formula.now) c.args.nodes.now c.args.entry.now c.requires (inr (omega (arith, same, c.if-number-nodes.true))) h),
    )

pub returns : goal.returns
returns g c =
    let same : c.entry.inside.node ≡ c.args.entry.now.node = λ i. (c.entry.view_is i).node in
    let there : IsOfNode (node_view c.index-nodes-nodes.result) c.args.entry.now ↔ HasRule (ctl_of c.args._formula.now) c.args.entry.now =
    rule_there (ctl_of c.args._formula.now) c.args.nodes.now c.args.entry.now c.requires c.index-nodes-nodes.result (omega (arith, same, c.if-number-eq0.false)) (omega (arith, same, c.if-number-nodes.false))
    (c.index-nodes-nodes.is ∙ ap (λ k. get_or c.args.nodes.now (length c.args.nodes.now - k) c.index-nodes-nodes.result) same) in
    (λ h. there.0 (c.is_of_node.ensures.0 h), λ h. c.is_of_node.ensures.1 (there.1 h))
