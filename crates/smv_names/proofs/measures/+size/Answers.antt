use Rattle.std.proofs.Common.{rules, ◌≡◌, sym, ◌∙◌, ap, subst, map}
use Rattle.std.specs.Prelude.{IfOk}
use Rattle.smv_parser.specs.Tree as tree
use Rattle.smv_parser.specs.View.{form, path_of, tree_of, arm_pair}
use Rattle.smv_parser.proofs.Views.{path_form, braces_form, case_form}
use Rattle.smv_instances.specs.Abstract as abstract
use Rattle.smv_instances.specs.Plain.{plain_expr}
use Rattle.smv_instances.specs.Program.{Expr, Exprs}
use Rattle.smv_instances.specs.Program
use Rattle.smv_instances.proofs.ListSteps.{take_whole}
use Rattle.smv_names.specs.Abbreviations.{mentions, element_mentions, arm_mentions}
use Rattle.smv_names.specs.Values.{IsSizeOf, AreSizesOf, AreArmSizesOf}
use Rattle.smv_names.specs.Known.{AreSizesIn}
use Rattle.smv_names.proofs.KnownLemmas.{sizes_left, sizes_right}
use Rattle.smv_names.proofs.MentionLemmas.{mentions-prefixed}
use Rattle.smv_names.proofs.MeasureLemmas.{element_sizes, element_more, guard_sizes, right_sizes, arm_more, operand_size}
use Rattle.smv_names.proofs.NumberLemmas.{if_ok_by}
use Rattle.smv_names.proofs.SizeLemmas.{next_size, parens_size, prefix_size, both_size, binary_size, until_size, braces_size, case_size}
use Rattle.smv_names.proofs.measures.+size.Goals as goal

pub size-returns-in-Path : goal.size-returns-in-Path
size-returns-in-Path t c = λ p s targets at known.
    let kind : form c.args.expr.now.kind ≡ tree.Form.path (path_of c.in-Path.path) = ap (λ z. form z) c.in-Path.is ∙ path_form c.in-Path.path in
    subst (λ z. IfOk c.path_size.result (IsSizeOf p s (abstract.form_expr z))) (sym kind)
    (c.path_size.ensures p s targets at (subst (λ z. AreSizesIn p c.args.sizes.now s (mentions (abstract.form_expr z))) kind known))

pub size-returns-in-Parens : goal.size-returns-in-Parens
size-returns-in-Parens t c = λ p s targets at known.
    let inner = plain_expr c.in-Parens.inner.value in
    let same : c.deref.result.now ≡ c.in-Parens.inner.value = search rules in
    let whole : abstract.form_expr (form c.args.expr.now.kind) ≡ Expr.Parens inner = ap (λ k. abstract.form_expr (form k)) c.in-Parens.is in
    let parts : AreSizesIn p c.args.sizes.now s (mentions inner) = subst (λ z. AreSizesIn p c.args.sizes.now s (mentions z)) whole known in
    let found : IfOk c.size.result (IsSizeOf p s inner) =
    subst (λ z. AreSizesIn p c.args.sizes.now s (mentions (plain_expr z)) → IfOk c.size.result (IsSizeOf p s (plain_expr z))) same (c.size.ensures p s targets at) parts in
    subst (λ z. IfOk c.size.result (IsSizeOf p s z)) (sym whole) (if_ok_by c.size.result (λ z h. parens_size {p = p} {s = s} {e = inner} {z = z} h) found)

pub size-returns-in_ok-part-in-Next : goal.size-returns-in_ok-part-in-Next
size-returns-in_ok-part-in-Next t c = λ p s targets at known.
    let inner = plain_expr c.in-Next.inner.value in
    let same : c.deref-in-Next.result.now ≡ c.in-Next.inner.value = search rules in
    let whole : abstract.form_expr (form c.args.expr.now.kind) ≡ Expr.Next inner = ap (λ k. abstract.form_expr (form k)) c.in-Next.is in
    let parts : AreSizesIn p c.args.sizes.now s (mentions inner) = subst (λ z. AreSizesIn p c.args.sizes.now s (mentions z)) whole known in
    let part : IsSizeOf p s inner c.in_ok-part-in-Next.part = operand_size p c.args.sizes.now s c.deref-in-Next.result.now c.in-Next.inner.value c.in_ok-part-in-Next.part same parts (c.in_ok-part-in-Next.ensures p s targets at) in
    subst (λ z. IsSizeOf p s z c.around.result) (sym whole) (next_size {p = p} {s = s} {e = inner} {y = c.in_ok-part-in-Next.part} {z = c.around.result} part c.around.ensures)

pub size-returns-in_ok-part-in-Prefix : goal.size-returns-in_ok-part-in-Prefix
size-returns-in_ok-part-in-Prefix t c = λ p s targets at known.
    let inner = plain_expr c.in-Prefix.inner.value in
    let op = c.in-Prefix.field-0 in
    let same : c.deref-in-Prefix.result.now ≡ c.in-Prefix.inner.value = search rules in
    let whole : abstract.form_expr (form c.args.expr.now.kind) ≡ abstract.prefixed op inner = ap (λ k. abstract.form_expr (form k)) c.in-Prefix.is in
    let parts : AreSizesIn p c.args.sizes.now s (mentions inner) = subst (λ z. AreSizesIn p c.args.sizes.now s z) (ap mentions whole ∙ mentions-prefixed op inner) known in
    let part : IsSizeOf p s inner c.in_ok-part-in-Prefix.part = operand_size p c.args.sizes.now s c.deref-in-Prefix.result.now c.in-Prefix.inner.value c.in_ok-part-in-Prefix.part same parts (c.in_ok-part-in-Prefix.ensures p s targets at) in
    subst (λ z. IsSizeOf p s z c.around-in-Prefix.result) (sym whole) (prefix_size {p = p} {s = s} op inner {y = c.in_ok-part-in-Prefix.part} {z = c.around-in-Prefix.result} part c.around-in-Prefix.ensures)

pub size-returns-in_ok-parts-in-Braces : goal.size-returns-in_ok-parts-in-Braces
size-returns-in_ok-parts-in-Braces t c = λ p s targets at known.
    let kind : form c.args.expr.now.kind ≡ tree.Form.braces (tree.trees_of (map tree_of c.in-Braces.elements.items)) = ap (λ z. form z) c.in-Braces.is ∙ braces_form c.in-Braces.elements in
    let es : Exprs = abstract.exprs (tree.trees_of (map tree_of c.in-Braces.elements.items)) in
    let parts : AreSizesIn p c.args.sizes.now s (element_mentions es) = subst (λ z. AreSizesIn p c.args.sizes.now s (mentions (abstract.form_expr z))) kind known in
    let total : AreSizesOf p s es c.in_ok-parts-in-Braces.parts =
    subst (λ xs. AreSizesIn p c.args.sizes.now s (element_mentions (abstract.exprs (tree.trees_of (map tree_of xs)))) → AreSizesOf p s (abstract.exprs (tree.trees_of (map tree_of xs))) c.in_ok-parts-in-Braces.parts)
    c.deref-in-Braces.ensures.value (c.in_ok-parts-in-Braces.ensures p s targets at) parts in
    subst (λ z. IsSizeOf p s (abstract.form_expr z) c.around-in-Braces.result) (sym kind) (braces_size {p = p} {s = s} {es = es} {y = c.in_ok-parts-in-Braces.parts} {z = c.around-in-Braces.result} total c.around-in-Braces.ensures)

pub size-returns-in_ok-parts-in-Case : goal.size-returns-in_ok-parts-in-Case
size-returns-in_ok-parts-in-Case t c = λ p s targets at known.
    let kind : form c.args.expr.now.kind ≡ tree.Form.cases (tree.arms_of (map arm_pair c.in-Case.arms.items)) = ap (λ z. form z) c.in-Case.is ∙ case_form c.in-Case.arms in
    let es : Program.Arms = abstract.arms (tree.arms_of (map arm_pair c.in-Case.arms.items)) in
    let parts : AreSizesIn p c.args.sizes.now s (arm_mentions es) = subst (λ z. AreSizesIn p c.args.sizes.now s (mentions (abstract.form_expr z))) kind known in
    let total : AreArmSizesOf p s es c.in_ok-parts-in-Case.parts =
    subst (λ xs. AreSizesIn p c.args.sizes.now s (arm_mentions (abstract.arms (tree.arms_of (map arm_pair xs)))) → AreArmSizesOf p s (abstract.arms (tree.arms_of (map arm_pair xs))) c.in_ok-parts-in-Case.parts)
    c.deref-in-Case.ensures.value (c.in_ok-parts-in-Case.ensures p s targets at) parts in
    subst (λ z. IsSizeOf p s (abstract.form_expr z) c.around-in-Case.result) (sym kind) (case_size {p = p} {s = s} {arms = es} {y = c.in_ok-parts-in-Case.parts} {z = c.around-in-Case.result} total c.around-in-Case.ensures)

pub size-returns-in_ok-second-in-Until : goal.size-returns-in_ok-second-in-Until
size-returns-in_ok-second-in-Until t c = λ p s targets at known.
    let sizes = c.args.sizes.now in
    let a = plain_expr c.in-Until.left.value in
    let b = plain_expr c.in-Until.right.value in
    let all = abstract.is_all c.in-Until.field-0 in
    let whole : abstract.form_expr (form c.args.expr.now.kind) ≡ Expr.Until all a b = ap (λ k. abstract.form_expr (form k)) c.in-Until.is in
    let first : c.deref-in-Until.result.now ≡ c.in-Until.left.value = search rules in
    let second : c.deref-in-Until-2.result.now ≡ c.in-Until.right.value = search rules in
    let parts : AreSizesIn p sizes s (mentions (Expr.Until all a b)) = subst (λ z. AreSizesIn p sizes s (mentions z)) whole known in
    let left : IsSizeOf p s a c.in_ok-first-in-Until.first = operand_size p sizes s c.deref-in-Until.result.now c.in-Until.left.value c.in_ok-first-in-Until.first first (sizes_left p sizes s (mentions a) (mentions b) parts) (c.in_ok-first-in-Until.ensures p s targets at) in
    let right : IsSizeOf p s b c.in_ok-second-in-Until.second = operand_size p sizes s c.deref-in-Until-2.result.now c.in-Until.right.value c.in_ok-second-in-Until.second second (sizes_right p sizes s (mentions a) (mentions b) parts) (c.in_ok-second-in-Until.ensures p s targets at) in
    subst (λ z. IsSizeOf p s z c.around-in-Until.result) (sym whole)
    (until_size {p = p} {s = s} all a b {z = c.around-in-Until.result}
    (both_size {p = p} {s = s} a b {w = c.beside.result} {x = c.in_ok-first-in-Until.first} {y = c.in_ok-second-in-Until.second} {z = c.around-in-Until.result} left right c.beside.ensures c.around-in-Until.ensures))

pub size-returns-in_ok-second-in-Binary : goal.size-returns-in_ok-second-in-Binary
size-returns-in_ok-second-in-Binary t c = λ p s targets at known.
    let sizes = c.args.sizes.now in
    let a = plain_expr c.in-Binary.left.value in
    let b = plain_expr c.in-Binary.right.value in
    let op = abstract.operator c.in-Binary.field-0 in
    let whole : abstract.form_expr (form c.args.expr.now.kind) ≡ Expr.Binary op a b = ap (λ k. abstract.form_expr (form k)) c.in-Binary.is in
    let first : c.deref-in-Binary.result.now ≡ c.in-Binary.left.value = search rules in
    let second : c.deref-in-Binary-2.result.now ≡ c.in-Binary.right.value = search rules in
    let parts : AreSizesIn p sizes s (mentions (Expr.Binary op a b)) = subst (λ z. AreSizesIn p sizes s (mentions z)) whole known in
    let left : IsSizeOf p s a c.in_ok-first-in-Binary.first = operand_size p sizes s c.deref-in-Binary.result.now c.in-Binary.left.value c.in_ok-first-in-Binary.first first (sizes_left p sizes s (mentions a) (mentions b) parts) (c.in_ok-first-in-Binary.ensures p s targets at) in
    let right : IsSizeOf p s b c.in_ok-second-in-Binary.second = operand_size p sizes s c.deref-in-Binary-2.result.now c.in-Binary.right.value c.in_ok-second-in-Binary.second second (sizes_right p sizes s (mentions a) (mentions b) parts) (c.in_ok-second-in-Binary.ensures p s targets at) in
    subst (λ z. IsSizeOf p s z c.around-in-Binary.result) (sym whole)
    (binary_size {p = p} {s = s} op a b {z = c.around-in-Binary.result}
    (both_size {p = p} {s = s} a b {w = c.beside-in-Binary.result} {x = c.in_ok-first-in-Binary.first} {y = c.in_ok-second-in-Binary.second} {z = c.around-in-Binary.result} left right c.beside-in-Binary.ensures c.around-in-Binary.ensures))

pub elements_size-loop-element-preserved : goal.elements_size-loop-element-preserved
elements_size-loop-element-preserved t c = λ p s targets at known.
    let k = c.loop-element.element-index in
    element_more p s c.args.elements.now k c.element-item.result c.loop-element.total c.in_ok-part.part c.beside-total.result c.loop-element-test.true c.element-item.is
    (c.loop-element.invariant p s targets at known)
    (c.in_ok-part.ensures p s targets at (element_sizes p c.args.sizes.now s c.args.elements.now k c.element-item.result c.loop-element-test.true c.element-item.is known))
    c.beside-total.ensures

pub elements_size-returns : goal.elements_size-returns
elements_size-returns t c = λ p s targets at known.
    subst (λ xs. AreSizesOf p s (abstract.exprs (tree.trees_of (map tree_of xs))) c.loop-element.total) (take_whole c.args.elements.now c.loop-element.element-index c.loop-element-test.false)
    (c.loop-element.invariant p s targets at known)

pub arms_size-loop-arm-preserved : goal.arms_size-loop-arm-preserved
arms_size-loop-arm-preserved t c = λ p s targets at known.
    let k = c.loop-arm.arm-index in
    arm_more p s c.args.arms.now k c.arm-item.result c.loop-arm.total c.in_ok-guard.guard c.in_ok-right.right c.beside.result c.beside-total.result c.loop-arm-test.true c.arm-item.is
    (c.loop-arm.invariant p s targets at known)
    (c.in_ok-guard.ensures p s targets at (guard_sizes p c.args.sizes.now s c.args.arms.now k c.arm-item.result c.loop-arm-test.true c.arm-item.is known))
    (c.in_ok-right.ensures p s targets at (right_sizes p c.args.sizes.now s c.args.arms.now k c.arm-item.result c.loop-arm-test.true c.arm-item.is known))
    c.beside.ensures c.beside-total.ensures

pub arms_size-returns : goal.arms_size-returns
arms_size-returns t c = λ p s targets at known.
    subst (λ xs. AreArmSizesOf p s (abstract.arms (tree.arms_of (map arm_pair xs))) c.loop-arm.total) (take_whole c.args.arms.now c.loop-arm.arm-index c.loop-arm-test.false)
    (c.loop-arm.invariant p s targets at known)
