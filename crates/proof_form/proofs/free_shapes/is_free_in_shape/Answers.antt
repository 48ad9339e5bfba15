use Rattle.std.proofs.Common.{◌≡◌, All, ◌↔◌, IsTrue, ◌∙◌, subst}
use Rattle.std.proofs.lemmas.Result.{IfOk-weaker}
use Rattle.proof_form.specs.Shape.{HasConstraintRule, IsFreeInShape}
use Rattle.proof_form.proofs.ShapeTests.{free_shape}
use Rattle.proof_form.proofs.free_shapes.is_free_in_shape.Goals as goal

pub returns : goal.returns
returns g c =
    let m = c.args.model.now in
    let p = c.args.part.now in
    let entries : c.deref.result.now ≡ p.entries = c.deref.ensures.value ∙ (λ i. (c.part.view_is i).entries) in
    IfOk-weaker c.have_constraint_rules.result (λ good. IsTrue good ↔ All (HasConstraintRule m) c.deref.result.now) (λ good. IsTrue good ↔ IsFreeInShape m p)
    (λ good h. free_shape m p (c.is_laid_out.ensures.0 c.if-not-is_laid_out.false) good (subst (λ es. IsTrue good ↔ All (HasConstraintRule m) es) entries h)) c.have_constraint_rules.ensures
