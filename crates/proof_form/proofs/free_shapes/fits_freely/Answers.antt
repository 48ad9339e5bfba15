use Rattle.std.proofs.Common.{◌↔◌, IsTrue, IfOk, Some, sym, ◌∙◌, subst}
use Rattle.std.proofs.lemmas.Bool.{false≢true}
use Rattle.std.proofs.lemmas.Result.{IfOk-weaker}
use Rattle.proof_form.specs.Shape.{FitsFreely, IsFreeInShape}
use Rattle.proof_form.proofs.ShapeTests.{free_fits}
use Rattle.proof_form.proofs.free_shapes.fits_freely.Goals as goal

pub returns-else-leaves : goal.returns-else-leaves
returns-else-leaves g c =
    let m = c.args.model.now in
    subst (λ o. IfOk c.is_free_in_shape.result (λ good. IsTrue good ↔ FitsFreely m o)) (sym c.in-Some.is)
    (IfOk-weaker c.is_free_in_shape.result (λ good. IsTrue good ↔ IsFreeInShape m c.in-Some.part) (λ good. IsTrue good ↔ (FitsFreely m (Some c.in-Some.part)))
    (λ good h. free_fits m c.in-Some.part (λ leaves. false≢true (sym c.if-leaves.false ∙ c.has_leaf_constraints-leaves.ensures.1 leaves)) good h) c.is_free_in_shape.ensures)
