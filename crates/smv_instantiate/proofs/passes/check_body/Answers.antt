use Rattle.std.proofs.Common.{◌≡◌, sym, subst, arith, ◌++◌, take, append-nil, inl, inr, ⊎_elim}
use Rattle.std.proofs.lemmas.Result.{err_from_is_err_and}
use Rattle.kripke_model.specs.Refusing.{First, Silent}
use Rattle.smv_instances.proofs.ListSteps.{take_whole}
use Rattle.smv_instantiate.specs.Passes.{IsPassed, placed}
use Rattle.smv_instantiate.specs.Refuses.{item}
use Rattle.smv_instantiate.proofs.PassSteps.{pass_refused, passed_on}
use Rattle.smv_instantiate.proofs.passes.check_body.Goals as goal

pub loop-item-init : goal.loop-item-init
loop-item-init c = λ p s before tables at passed.
    (subst (λ ys. IsPassed p ys c.args.totals.now) (sym (append-nil before)) passed, λ r h. h)

pub check_item-requires : goal.check_item-requires
check_item-requires c =
    let r = c.requires in
    let known = c.loop-item.invariant r.0 r.1 r.2 r.3 r.4 r.5 in
    (r.0, r.1, r.2 ++ placed r.1 (take c.loop-item.item-index c.args.items.now), r.3, r.4, known.0)

pub returns-in_err-so_far : goal.returns-in_err-so_far
returns-in_err-so_far c = λ p s before tables at passed.
    let known = c.loop-item.invariant p s before tables at passed in
    let q = err_from_is_err_and c.from_residual.result c.from_residual.ensures.1 in
    rw (q.1, q.2)
    (⊎_elim (λ memory. inl memory) (λ refused. inr (pass_refused s c.args.items.now c.loop-item.item-index c.item-item.result c.loop-item-test.true c.item-item.is p before _ known.1 refused))
    (c.in_err-so_far.ensures p s (before ++ placed s (take c.loop-item.item-index c.args.items.now)) tables at known.0))

pub loop-item-preserved : goal.loop-item-preserved
loop-item-preserved c = λ p s before tables at passed.
    let known = c.loop-item.invariant p s before tables at passed in
    passed_on s c.args.items.now c.loop-item.item-index c.item-item.result c.loop-item-test.true c.item-item.is p before c.in_ok-so_far.so_far known.1
    (c.in_ok-so_far.ensures p s (before ++ placed s (take c.loop-item.item-index c.args.items.now)) tables at known.0)

pub returns : goal.returns
returns c = λ p s before tables at passed.
    let known = c.loop-item.invariant p s before tables at passed in
    let whole : take c.loop-item.item-index c.args.items.now ≡ c.args.items.now = take_whole c.args.items.now c.loop-item.item-index (omega (arith, c.loop-item-test.false)) in
    (subst (λ xs. IsPassed p (before ++ placed s xs) c.loop-item.so_far) whole known.0, subst (λ xs. Silent (First (item p) before (placed s xs))) whole known.1)
