use Rattle.std.proofs.Common.{get_or, ◌∙◌, subst, below_more}
use Rattle.std.proofs.lemmas.List.{get_or_default}
use Rattle.proof_form.specs.Shape.{HasConstraintRule}
use Rattle.proof_form.proofs.free_shapes.have_constraint_rules.Goals as goal

pub loop-free-preserved : goal.loop-free-preserved
loop-free-preserved g c =
    let m = c.args.model.now in
    let es = c.args.entries.now in
    below_more (λ k. (d : _) → HasConstraintRule m (get_or es k d)) c.loop-free.free-index c.loop-free.invariant
    (λ d. subst (HasConstraintRule m) (c.free-item.is ∙ get_or_default es c.loop-free.free-index c.free-item.result d c.loop-free-test.true) (c.has_constraint_rule.ensures.0 c.if-not-has_constraint_rule.false))
