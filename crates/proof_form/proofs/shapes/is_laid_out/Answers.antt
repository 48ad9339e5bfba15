use Rattle.std.proofs.Common.{◌≡◌, length, sym, ◌∙◌}
use Rattle.proof_form.proofs.ShapeTests.{refuted, unrising, unavoiding, laid_out}
use Rattle.proof_form.proofs.shapes.is_laid_out.Goals as goal

pub returns-then-not-are_rising : goal.returns-then-not-are_rising
returns-then-not-are_rising g c =
    unrising c.args.count c.args.proof.now c.deref.result.now c.are_rising.result (c.deref.ensures.value ∙ (λ i. (c.proof.view_is i).entries)) c.if-not-are_rising.true c.are_rising.ensures.1

pub returns-then-not-all_avoid : goal.returns-then-not-all_avoid
returns-then-not-all_avoid g c =
    unavoiding c.args.count c.args.proof.now c.deref-2.result.now c.all_avoid.result (c.deref-2.ensures.value ∙ (λ i. (c.proof.view_is i).nonfair)) c.if-not-all_avoid.true c.all_avoid.ensures.1

pub returns-then-not-reaches_each : goal.returns-then-not-reaches_each
returns-then-not-reaches_each g c =
    let reach : length c.proof.inside.fair.reach ≡ length c.args.proof.now.fair.reach = λ i. length (c.proof.view_is i).fair.reach in
    refuted c.reaches_each.result c.if-not-reaches_each.true c.reaches_each.ensures.1 (λ laid. reach ∙ laid.reach)

pub returns : goal.returns
returns g c =
    let reach : length c.proof.inside.fair.reach ≡ length c.args.proof.now.fair.reach = λ i. length (c.proof.view_is i).fair.reach in
    laid_out c.args.count c.args.proof.now c.deref.result.now c.deref-3.result.now c.deref-2.result.now c.are_fitting.result
    (c.deref.ensures.value ∙ (λ i. (c.proof.view_is i).entries)) (c.deref-2.ensures.value ∙ (λ i. (c.proof.view_is i).nonfair)) (c.deref-3.ensures.value ∙ (λ i. (c.proof.view_is i).entries))
    (c.are_rising.ensures.0 c.if-not-are_rising.false) (c.all_avoid.ensures.0 c.if-not-all_avoid.false) (sym reach ∙ c.reaches_each.ensures.0 c.if-not-reaches_each.false) c.are_fitting.ensures
