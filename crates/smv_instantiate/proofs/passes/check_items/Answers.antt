use Rattle.std.proofs.Common.{◌≡◌, ◌∙◌, ap, subst, arith, [], ◌++◌, inl, inr, ⊎_elim}
use Rattle.std.specs.Prelude.{All, map}
use Rattle.std.proofs.lemmas.Result.{err_from_is_err_and}
use Rattle.kripke_model.specs.Refusing.{First, Silent}
use Rattle.smv_instantiate.specs.Items.{plain_item}
use Rattle.smv_instantiate.specs.Passes.{IsPassed, HasTerm, placed}
use Rattle.smv_instantiate.specs.Refuses.{item}
use Rattle.smv_instantiate.proofs.PassSteps.{all_before, body_items, body_passed, body_refused, items_before, placed_body}
use Rattle.smv_instantiate.proofs.PassLemmas.{nothing_passed, scope_there}
use Rattle.smv_instantiate.proofs.passes.check_items.Goals as goal

pub loop-i-init : goal.loop-i-init
loop-i-init c = λ p tables. (nothing_passed p c.no_totals-totals.result c.no_totals-totals.ensures.counts c.no_totals-totals.ensures.nodes, λ r h. h)

pub module-requires : goal.module-requires
module-requires c = let r = c.requires in (r.0, r.1.instances_are, omega (arith, c.loop-i-test.true, c.len-i-end.ensures r.0 r.1.instances_are))

pub check_body-requires : goal.check_body-requires
check_body-requires c =
    let r = c.requires in
    let there = scope_there r.0 c.loop-i.i (omega (arith, c.loop-i-test.true, c.len-i-end.ensures r.0 r.1.instances_are)) in
    (r.0, there.0, items_before r.0 c.loop-i.i, r.1, there.1, (c.loop-i.invariant r.0 r.1).0)

pub returns-in_err-totals : goal.returns-in_err-totals
returns-in_err-totals c = λ p tables.
    let there = scope_there p c.loop-i.i (omega (arith, c.loop-i-test.true, c.len-i-end.ensures p tables.instances_are)) in
    let known = c.loop-i.invariant p tables in
    let own : placed there.0 c.deref.result.now ≡ body_items there.0 =
    placed_body there.0 c.deref.result.now _ (ap (map plain_item) c.deref.ensures.value ∙ c.in_ok-items.ensures) (c.module.ensures p there.0 tables.instances_are there.1) in
    let q = err_from_is_err_and c.from_residual-in_err-totals.result c.from_residual-in_err-totals.ensures.1 in
    rw (q.1, q.2)
    (⊎_elim (λ memory. inl memory) (λ refused. inr (body_refused p c.loop-i.i there.0 there.1 _ known.1 (subst (λ ys. First (item p) (items_before p c.loop-i.i) ys c.in_err-totals.field-0.0) own refused)))
    (c.in_err-totals.ensures p there.0 (items_before p c.loop-i.i) tables there.1 known.0))

pub loop-i-preserved : goal.loop-i-preserved
loop-i-preserved c = λ p tables.
    let there = scope_there p c.loop-i.i (omega (arith, c.loop-i-test.true, c.len-i-end.ensures p tables.instances_are)) in
    let known = c.loop-i.invariant p tables in
    let own : placed there.0 c.deref.result.now ≡ body_items there.0 =
    placed_body there.0 c.deref.result.now _ (ap (map plain_item) c.deref.ensures.value ∙ c.in_ok-items.ensures) (c.module.ensures p there.0 tables.instances_are there.1) in
    let passed = c.in_ok-totals.ensures p there.0 (items_before p c.loop-i.i) tables there.1 known.0 in
    body_passed p c.loop-i.i there.0 there.1 c.in_ok-totals.totals known.1 (subst (λ ys. IsPassed p (items_before p c.loop-i.i ++ ys) c.in_ok-totals.totals × Silent (First (item p) (items_before p c.loop-i.i) ys)) own passed)

pub returns : goal.returns
returns c = λ p tables.
    let known = c.loop-i.invariant p tables in
    let all : items_before p c.loop-i.i ≡ _ = all_before p c.loop-i.i (omega (arith, c.loop-i-test.false, c.len-i-end.ensures p tables.instances_are)) in
    (subst (λ ys. All (HasTerm p) ys) all known.0.ready, subst (λ ys. Silent (First (item p) [] ys)) all known.1)
