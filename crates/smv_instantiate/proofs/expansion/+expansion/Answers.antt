use Rattle.std.proofs.Common.{rules, ◌≡◌, refl, sym, ◌∙◌, ap, ◌<◌, ◌≤◌, arith, length, true}
use Rattle.std.proofs.lemmas.Bool.{false≢true}
use Rattle.std.proofs.lemmas.Option.{slice_get_read, slice_get_within}
use Rattle.kripke_model.specs.Reading.{arm_of, term_of}
use Rattle.kripke_model.specs.Term.{Term}
use Rattle.kripke_model.proofs.ReadingLemmas.{braces_term, case_term}
use Rattle.smv_parser.specs.View.{form}
use Rattle.smv_parser.proofs.Views.{braces_form, case_form, path_form}
use Rattle.smv_instances.specs.Abstract as abstract
use Rattle.smv_instances.specs.Instances.{instances}
use Rattle.smv_instances.specs.Plain.{plain_expr}
use Rattle.smv_instances.specs.Program.{Expr}
use Rattle.smv_names.specs.Written.{plain_path}
use Rattle.smv_instantiate.specs.Expanded.{prefix_term}
use Rattle.smv_instantiate.specs.Expansion.{plain_arms, plain_exprs}
use Rattle.smv_instantiate.proofs.ProcessSteps.{process_few, process_place}
use Rattle.smv_instantiate.proofs.TypeSteps.{taken_all}
use Rattle.smv_instantiate.proofs.ExpandLemmas.{
  are_instances,
  arm_at,
  arm_count,
  arm_same,
  arms_along,
  arms_list,
  arms_same,
  binary_parts,
  binary_same,
  braces_parts,
  case_parts,
  element_at,
  element_count,
  elements_along,
  is_parens,
  mapped_more,
  next_part,
  no_parens,
  node_own,
  node_stands,
  number_term,
  prefix_part,
  running_term,
  some_nesting,
  stands_along,
  term_along,
  terms_list,
  terms_same,
  truth_term,
  until_parts,
  until_same,
}
use Rattle.smv_instantiate.proofs.expansion.+expansion.Goals as goal

-- ---- an expression

pub expand_within-expand_node-requires : goal.expand_within-expand_node-requires
expand_within-expand_node-requires t c =
    let h = c.requires in
    let n = c.in_ok-node.ensures h.0 h.1 h.3.paths_are h.4 in
    (omega (arith, c.decreases), (h.0, n.ends.scope, h.2, h.3, n.ends.home, node_stands n h.5, node_own n))

pub expand_within-returns : goal.expand_within-returns
expand_within-returns t c = λ p s u can at stands.
    let n = c.in_ok-node.ensures p s can.paths_are at in
    c.expand_node.ensures p n.ends.scope u can n.ends.home (node_stands n stands) (node_own n)

-- ---- elements

pub expand_elements-expand_within-requires : goal.expand_elements-expand_within-requires
expand_elements-expand_within-requires t c =
    let h = c.requires in
    let k = c.loop-element.element-index in
    let r = element_at c.args.elements.now k c.element-item.result (slice_get_read c.args.elements.now _ k c.element-item.result refl c.loop-element-test.true c.element-item.is) h.5.expand h.5.shallow h.5.numbers in
    (omega (arith, c.decreases), (h.0, h.1, r.0, h.3, h.4, r.1))

pub expand_elements-loop-element-preserved : goal.expand_elements-loop-element-preserved
expand_elements-loop-element-preserved t c = λ p s ts can at stand.
    let k = c.loop-element.element-index in
    let r = element_at c.args.elements.now k c.element-item.result (slice_get_read c.args.elements.now _ k c.element-item.result refl c.loop-element-test.true c.element-item.is) stand.expand stand.shallow stand.numbers in
    mapped_more term_of (terms_list ts) k c.loop-element.expanded.items c.push.new.self.items _ r.0 c.in_ok-push.ensures.items (c.loop-element.invariant p s ts can at stand) (c.in_ok-expand_within.ensures p s r.0 can at r.1) r.2

pub expand_elements-returns : goal.expand_elements-returns
expand_elements-returns t c = λ p s ts can at stand.
    let k = c.loop-element.element-index in
    let count = element_count c.args.elements.now stand.expand in
    let past : length (terms_list ts) ≤ k = omega (arith, count, c.loop-element-test.false) in
    terms_same c.loop-element.expanded.items ts (c.loop-element.invariant p s ts can at stand ∙ taken_all (terms_list ts) k past)

-- ---- arms

pub expand_arms-expand_within-requires : goal.expand_arms-expand_within-requires
expand_arms-expand_within-requires t c =
    let h = c.requires in
    let k = c.loop-arm.arm-index in
    let r = arm_at c.args.arms.now k c.arm-item.result (slice_get_read c.args.arms.now _ k c.arm-item.result refl c.loop-arm-test.true c.arm-item.is) h.5.expand h.5.shallow h.5.numbers in
    (omega (arith, c.decreases), (h.0, h.1, r.0, h.3, h.4, r.2))

pub expand_arms-expand_within-requires-in-loop-arm : goal.expand_arms-expand_within-requires-in-loop-arm
expand_arms-expand_within-requires-in-loop-arm t c =
    let h = c.requires in
    let k = c.loop-arm.arm-index in
    let r = arm_at c.args.arms.now k c.arm-item.result (slice_get_read c.args.arms.now _ k c.arm-item.result refl c.loop-arm-test.true c.arm-item.is) h.5.expand h.5.shallow h.5.numbers in
    (omega (arith, c.decreases), (h.0, h.1, r.1, h.3, h.4, r.3))

pub expand_arms-loop-arm-preserved : goal.expand_arms-loop-arm-preserved
expand_arms-loop-arm-preserved t c = λ p s ts can at stand.
    let k = c.loop-arm.arm-index in
    let r = arm_at c.args.arms.now k c.arm-item.result (slice_get_read c.args.arms.now _ k c.arm-item.result refl c.loop-arm-test.true c.arm-item.is) stand.expand stand.shallow stand.numbers in
    mapped_more arm_of (arms_list ts) k c.loop-arm.expanded.items c.push.new.self.items _ (r.0, r.1) c.in_ok-push.ensures.items (c.loop-arm.invariant p s ts can at stand)
    (arm_same _ _ (c.in_ok-guard.ensures p s r.0 can at r.2) (c.in_ok-right.ensures p s r.1 can at r.3)) r.4

pub expand_arms-returns : goal.expand_arms-returns
expand_arms-returns t c = λ p s ts can at stand.
    let k = c.loop-arm.arm-index in
    let count = arm_count c.args.arms.now stand.expand in
    let past : length (arms_list ts) ≤ k = omega (arith, count, c.loop-arm-test.false) in
    arms_same c.loop-arm.expanded.items ts (c.loop-arm.invariant p s ts can at stand ∙ taken_all (arms_list ts) k past)

-- ---- leaves

pub expand_node-overflow_sub-below : goal.expand_node-overflow_sub-below
expand_node-overflow_sub-below t c = let h = c.requires in omega (arith, some_nesting h.2, h.5.shallow)

pub expand_node-number_value-requires : goal.expand_node-number_value-requires
expand_node-number_value-requires t c =
    let h = c.requires in
    let whole : plain_expr c.args.expr.now ≡ Expr.Number c.in-Number.n = ap (λ k. abstract.form_expr (form k)) c.in-Number.is in
    (number_term c.in-Number.n (stands_along whole h.5)).1

pub expand_node-returns-in-Number : goal.expand_node-returns-in-Number
expand_node-returns-in-Number t c = λ p s u can at stands own.
    let whole : plain_expr c.args.expr.now ≡ Expr.Number c.in-Number.n = ap (λ k. abstract.form_expr (form k)) c.in-Number.is in
    ap Term.Const c.number_value.ensures ∙ sym (number_term c.in-Number.n (stands_along whole stands)).0

pub expand_node-returns-in-Truth : goal.expand_node-returns-in-Truth
expand_node-returns-in-Truth t c = λ p s u can at stands own.
    let whole : plain_expr c.args.expr.now ≡ Expr.Truth c.in-Truth.truth = ap (λ k. abstract.form_expr (form k)) c.in-Truth.is in
    ap Term.Const c.truth_value.ensures ∙ sym (truth_term c.in-Truth.truth (stands_along whole stands).expands)

pub expand_node-process-requires : goal.expand_node-process-requires
expand_node-process-requires t c = let h = c.requires in (h.0, are_instances h.0 h.3, slice_get_within (instances h.0) c.args.i h.1 h.4)

pub expand_node-overflow_cast-result : goal.expand_node-overflow_cast-result
expand_node-overflow_cast-result t c =
    let h = c.requires in
    let all = are_instances h.0 h.3 in
    let few : c.process.result < 1024 = process_few h.0 all.silent h.3.written h.1 c.process.result (c.process.ensures h.0 h.1 all h.4) in
    omega (arith, few)

pub expand_node-returns-in-Running : goal.expand_node-returns-in-Running
expand_node-returns-in-Running t c = λ p s u can at stands own.
    let whole : plain_expr c.args.expr.now ≡ Expr.Running = ap (λ k. abstract.form_expr (form k)) c.in-Running.is in
    let all = are_instances p can in
    ap Term.Running (sym (process_place p all.silent can.written s c.process.result (c.process.ensures p s all at))) ∙ sym (running_term (stands_along whole stands).expands)

pub expand_node-leaf-requires : goal.expand_node-leaf-requires
expand_node-leaf-requires t c =
    let h = c.requires in
    let q = plain_path c.in-Path.path in
    let whole : plain_expr c.args.expr.now ≡ Expr.At q = ap abstract.form_expr (ap (λ z. form z) c.in-Path.is ∙ path_form c.in-Path.path) in
    (h.0, h.1, h.2, h.3, h.4, (stands_along whole h.5).expands, h.6.last q whole)

pub expand_node-returns-in-Path : goal.expand_node-returns-in-Path
expand_node-returns-in-Path t c = λ p s u can at stands own.
    let q = plain_path c.in-Path.path in
    let whole : plain_expr c.args.expr.now ≡ Expr.At q = ap abstract.form_expr (ap (λ z. form z) c.in-Path.is ∙ path_form c.in-Path.path) in
    c.leaf.ensures p s u can at (stands_along whole stands).expands (own.last q whole)

pub expand_node-unreachable-requires : goal.expand_node-unreachable-requires
expand_node-unreachable-requires t c =
    let h = c.requires in
    let is : is_parens (plain_expr c.args.expr.now) ≡ true = ap (λ k. is_parens (abstract.form_expr (form k))) c.in-Parens.is in
    false≢true (sym (no_parens (plain_expr c.args.expr.now)) ∙ ap is_parens h.6.bare_is ∙ is)

-- ---- nodes with one part

pub expand_node-expand_within-requires : goal.expand_node-expand_within-requires
expand_node-expand_within-requires t c =
    let h = c.requires in
    let inner = plain_expr c.in-Next.inner.value in
    let first : c.deref.result.now ≡ c.in-Next.inner.value = search rules in
    let whole : plain_expr c.args.expr.now ≡ Expr.Next inner = ap (λ k. abstract.form_expr (form k)) c.in-Next.is in
    let r = next_part inner (stands_along whole h.5) in
    (omega (arith, c.decreases, some_nesting h.2, h.5.shallow), (h.0, h.1, r.0, h.3, h.4, stands_along (sym (ap plain_expr first)) r.1))

pub expand_node-returns-in_ok-inner-in-Next : goal.expand_node-returns-in_ok-inner-in-Next
expand_node-returns-in_ok-inner-in-Next t c = λ p s u can at stands own.
    let inner = plain_expr c.in-Next.inner.value in
    let first : c.deref.result.now ≡ c.in-Next.inner.value = search rules in
    let whole : plain_expr c.args.expr.now ≡ Expr.Next inner = ap (λ k. abstract.form_expr (form k)) c.in-Next.is in
    let r = next_part inner (stands_along whole stands) in
    term_along c.next_of.result (ap Term.Next (c.in_ok-inner-in-Next.ensures p s r.0 can at (stands_along (sym (ap plain_expr first)) r.1)) ∙ sym r.2) c.next_of.ensures

pub expand_node-expand_within-requires-in-Prefix : goal.expand_node-expand_within-requires-in-Prefix
expand_node-expand_within-requires-in-Prefix t c =
    let h = c.requires in
    let inner = plain_expr c.in-Prefix.inner.value in
    let first : c.deref-in-Prefix.result.now ≡ c.in-Prefix.inner.value = search rules in
    let whole : plain_expr c.args.expr.now ≡ abstract.prefixed c.in-Prefix.op inner = ap (λ k. abstract.form_expr (form k)) c.in-Prefix.is in
    let r = prefix_part c.in-Prefix.op inner (stands_along whole h.5) in
    (omega (arith, c.decreases, some_nesting h.2, h.5.shallow), (h.0, h.1, r.0, h.3, h.4, stands_along (sym (ap plain_expr first)) r.1))

pub expand_node-returns-in_ok-inner-in-Prefix : goal.expand_node-returns-in_ok-inner-in-Prefix
expand_node-returns-in_ok-inner-in-Prefix t c = λ p s u can at stands own.
    let inner = plain_expr c.in-Prefix.inner.value in
    let first : c.deref-in-Prefix.result.now ≡ c.in-Prefix.inner.value = search rules in
    let whole : plain_expr c.args.expr.now ≡ abstract.prefixed c.in-Prefix.op inner = ap (λ k. abstract.form_expr (form k)) c.in-Prefix.is in
    let r = prefix_part c.in-Prefix.op inner (stands_along whole stands) in
    term_along c.prefixed.result (ap (prefix_term c.in-Prefix.op) (c.in_ok-inner-in-Prefix.ensures p s r.0 can at (stands_along (sym (ap plain_expr first)) r.1)) ∙ sym r.2) c.prefixed.ensures

-- ---- nodes with two parts

pub expand_node-expand_within-requires-in-Binary : goal.expand_node-expand_within-requires-in-Binary
expand_node-expand_within-requires-in-Binary t c =
    let h = c.requires in
    let a = plain_expr c.in-Binary.left.value in
    let b = plain_expr c.in-Binary.right.value in
    let op = abstract.operator c.in-Binary.op in
    let first : c.deref-in-Binary.result.now ≡ c.in-Binary.left.value = search rules in
    let whole : plain_expr c.args.expr.now ≡ Expr.Binary op a b = ap (λ k. abstract.form_expr (form k)) c.in-Binary.is in
    let r = binary_parts op a b (stands_along whole h.5) in
    (omega (arith, c.decreases, some_nesting h.2, h.5.shallow), (h.0, h.1, r.0, h.3, h.4, stands_along (sym (ap plain_expr first)) r.2))

pub expand_node-expand_within-requires-in-Binary-2 : goal.expand_node-expand_within-requires-in-Binary-2
expand_node-expand_within-requires-in-Binary-2 t c =
    let h = c.requires in
    let a = plain_expr c.in-Binary.left.value in
    let b = plain_expr c.in-Binary.right.value in
    let op = abstract.operator c.in-Binary.op in
    let second : c.deref-in-Binary-2.result.now ≡ c.in-Binary.right.value = search rules in
    let whole : plain_expr c.args.expr.now ≡ Expr.Binary op a b = ap (λ k. abstract.form_expr (form k)) c.in-Binary.is in
    let r = binary_parts op a b (stands_along whole h.5) in
    (omega (arith, c.decreases, some_nesting h.2, h.5.shallow), (h.0, h.1, r.1, h.3, h.4, stands_along (sym (ap plain_expr second)) r.3))

pub expand_node-returns-in_ok-right-in-Binary : goal.expand_node-returns-in_ok-right-in-Binary
expand_node-returns-in_ok-right-in-Binary t c = λ p s u can at stands own.
    let a = plain_expr c.in-Binary.left.value in
    let b = plain_expr c.in-Binary.right.value in
    let op = abstract.operator c.in-Binary.op in
    let first : c.deref-in-Binary.result.now ≡ c.in-Binary.left.value = search rules in
    let second : c.deref-in-Binary-2.result.now ≡ c.in-Binary.right.value = search rules in
    let whole : plain_expr c.args.expr.now ≡ Expr.Binary op a b = ap (λ k. abstract.form_expr (form k)) c.in-Binary.is in
    let r = binary_parts op a b (stands_along whole stands) in
    let left : term_of c.in_ok-left-in-Binary.left ≡ r.0 = c.in_ok-left-in-Binary.ensures p s r.0 can at (stands_along (sym (ap plain_expr first)) r.2) in
    let right : term_of c.in_ok-right-in-Binary.right ≡ r.1 = c.in_ok-right-in-Binary.ensures p s r.1 can at (stands_along (sym (ap plain_expr second)) r.3) in
    term_along c.binary.result (binary_same c.binary_operator.ensures left right ∙ sym r.4) c.binary.ensures

pub expand_node-expand_within-requires-in-Until : goal.expand_node-expand_within-requires-in-Until
expand_node-expand_within-requires-in-Until t c =
    let h = c.requires in
    let a = plain_expr c.in-Until.left.value in
    let b = plain_expr c.in-Until.right.value in
    let all = abstract.is_all c.in-Until.every in
    let first : c.deref-in-Until.result.now ≡ c.in-Until.left.value = search rules in
    let whole : plain_expr c.args.expr.now ≡ Expr.Until all a b = ap (λ k. abstract.form_expr (form k)) c.in-Until.is in
    let r = until_parts all a b (stands_along whole h.5) in
    (omega (arith, c.decreases, some_nesting h.2, h.5.shallow), (h.0, h.1, r.0, h.3, h.4, stands_along (sym (ap plain_expr first)) r.2))

pub expand_node-expand_within-requires-in-Until-2 : goal.expand_node-expand_within-requires-in-Until-2
expand_node-expand_within-requires-in-Until-2 t c =
    let h = c.requires in
    let a = plain_expr c.in-Until.left.value in
    let b = plain_expr c.in-Until.right.value in
    let all = abstract.is_all c.in-Until.every in
    let second : c.deref-in-Until-2.result.now ≡ c.in-Until.right.value = search rules in
    let whole : plain_expr c.args.expr.now ≡ Expr.Until all a b = ap (λ k. abstract.form_expr (form k)) c.in-Until.is in
    let r = until_parts all a b (stands_along whole h.5) in
    (omega (arith, c.decreases, some_nesting h.2, h.5.shallow), (h.0, h.1, r.1, h.3, h.4, stands_along (sym (ap plain_expr second)) r.3))

pub expand_node-returns-in_ok-right-in-Until : goal.expand_node-returns-in_ok-right-in-Until
expand_node-returns-in_ok-right-in-Until t c = λ p s u can at stands own.
    let a = plain_expr c.in-Until.left.value in
    let b = plain_expr c.in-Until.right.value in
    let all = abstract.is_all c.in-Until.every in
    let first : c.deref-in-Until.result.now ≡ c.in-Until.left.value = search rules in
    let second : c.deref-in-Until-2.result.now ≡ c.in-Until.right.value = search rules in
    let whole : plain_expr c.args.expr.now ≡ Expr.Until all a b = ap (λ k. abstract.form_expr (form k)) c.in-Until.is in
    let r = until_parts all a b (stands_along whole stands) in
    let left : term_of c.in_ok-left-in-Until.left ≡ r.0 = c.in_ok-left-in-Until.ensures p s r.0 can at (stands_along (sym (ap plain_expr first)) r.2) in
    let right : term_of c.in_ok-right-in-Until.right ≡ r.1 = c.in_ok-right-in-Until.ensures p s r.1 can at (stands_along (sym (ap plain_expr second)) r.3) in
    term_along c.until.result (until_same c.is_every.ensures left right ∙ sym r.4) c.until.ensures

-- ---- nodes with a list of parts

pub expand_node-expand_elements-requires : goal.expand_node-expand_elements-requires
expand_node-expand_elements-requires t c =
    let h = c.requires in
    let es = plain_exprs c.in-Braces.elements.items in
    let whole : plain_expr c.args.expr.now ≡ Expr.Braces es = ap abstract.form_expr (ap (λ z. form z) c.in-Braces.is ∙ braces_form c.in-Braces.elements) in
    let r = braces_parts es (stands_along whole h.5) in
    (omega (arith, c.decreases, some_nesting h.2, h.5.shallow), (h.0, h.1, r.0, h.3, h.4, elements_along (sym c.deref-in-Braces.ensures.value) r.1))

pub expand_node-returns-in_ok-elements-in-Braces : goal.expand_node-returns-in_ok-elements-in-Braces
expand_node-returns-in_ok-elements-in-Braces t c = λ p s u can at stands own.
    let es = plain_exprs c.in-Braces.elements.items in
    let whole : plain_expr c.args.expr.now ≡ Expr.Braces es = ap abstract.form_expr (ap (λ z. form z) c.in-Braces.is ∙ braces_form c.in-Braces.elements) in
    let r = braces_parts es (stands_along whole stands) in
    braces_term c.in_ok-elements-in-Braces.elements ∙ ap Term.Braces (c.in_ok-elements-in-Braces.ensures p s r.0 can at (elements_along (sym c.deref-in-Braces.ensures.value) r.1)) ∙ sym r.2

pub expand_node-expand_arms-requires : goal.expand_node-expand_arms-requires
expand_node-expand_arms-requires t c =
    let h = c.requires in
    let arms = plain_arms c.in-Case.arms.items in
    let whole : plain_expr c.args.expr.now ≡ Expr.Case arms = ap abstract.form_expr (ap (λ z. form z) c.in-Case.is ∙ case_form c.in-Case.arms) in
    let r = case_parts arms (stands_along whole h.5) in
    (omega (arith, c.decreases, some_nesting h.2, h.5.shallow), (h.0, h.1, r.0, h.3, h.4, arms_along (sym c.deref-in-Case.ensures.value) r.1))

pub expand_node-returns-in_ok-arms-in-Case : goal.expand_node-returns-in_ok-arms-in-Case
expand_node-returns-in_ok-arms-in-Case t c = λ p s u can at stands own.
    let arms = plain_arms c.in-Case.arms.items in
    let whole : plain_expr c.args.expr.now ≡ Expr.Case arms = ap abstract.form_expr (ap (λ z. form z) c.in-Case.is ∙ case_form c.in-Case.arms) in
    let r = case_parts arms (stands_along whole stands) in
    case_term c.in_ok-arms-in-Case.arms ∙ ap Term.Case (c.in_ok-arms-in-Case.ensures p s r.0 can at (arms_along (sym c.deref-in-Case.ensures.value) r.1)) ∙ sym r.2
