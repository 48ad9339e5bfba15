use Rattle.std.proofs.Common.{◌≡◌, All, ◌↔◌, IsTrue, ◌∙◌, subst}
use Rattle.std.proofs.lemmas.Result.{IfOk-weaker}
use Rattle.kripke_model.specs.WellFormed.{ctl_of}
use Rattle.proof_form.specs.Shape.{FitsFreely, HasRule, IsInShape}
use Rattle.proof_form.specs.ShapeParts.{IsLaidOut}
use Rattle.proof_form.proofs.ShapeTests.{whole_shape}
use Rattle.proof_form.proofs.shapes.is_in_shape.Goals as goal

pub returns : goal.returns
returns g c =
    let m = c.args.model.now in
    let f = ctl_of c.args.formula.now in
    let p = c.args.proof.now in
    let entries : c.deref.result.now ≡ p.entries = c.deref.ensures.value ∙ (λ i. (c.proof.view_is i).entries) in
    IfOk-weaker c.have_rules.result (λ good. IsTrue good ↔ All (HasRule f) c.deref.result.now) (λ good. IsTrue good ↔ IsInShape m f p)
    (λ good h. whole_shape m f p (subst (λ n. IsLaidOut n p) c.constraint_count.ensures (c.is_laid_out.ensures.0 c.if-not-is_laid_out.false)) (c.claim_fits.ensures.0 c.if-not-claim_fits.false)
    (subst (FitsFreely m) (λ i. (c.proof.view_is i).free) (c.in_ok-fits_freely.ensures.0 c.if-not-branch.false)) good (subst (λ es. IsTrue good ↔ All (HasRule f) es) entries h)) c.have_rules.ensures
