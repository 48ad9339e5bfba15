use Rattle.std.proofs.Common.{get_or, ◌∙◌, subst, below_more}
use Rattle.std.proofs.lemmas.List.{get_or_default}
use Rattle.kripke_model.specs.WellFormed.{ctl_of}
use Rattle.proof_form.specs.Shape.{HasRule}
use Rattle.proof_form.proofs.shapes.each_has_rule.Goals as goal

pub loop-entry-preserved : goal.loop-entry-preserved
loop-entry-preserved g c =
    let f = ctl_of c.args.formula.now in
    let es = c.args.entries.now in
    below_more (λ k. (d : _) → HasRule f (get_or es k d)) c.loop-entry.entry-index c.loop-entry.invariant
    (λ d. subst (HasRule f) (c.entry-item.is ∙ get_or_default es c.loop-entry.entry-index c.entry-item.result d c.loop-entry-test.true) (c.has_rule.ensures.0 c.if-not-has_rule.false))
