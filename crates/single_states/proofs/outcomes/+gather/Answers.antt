use Rattle.std.proofs.Common.{◌≡◌, ℕ, suc, ◌+◌, not, Ok, inl, inr, List, [], ◌∷◌, pos, refl, sym, ◌∙◌, ap, arith, subst}
use Rattle.std.specs.Prelude.{IfOk}
use Rattle.kripke_model.specs.declared.expressions.Value.{Value}
use Rattle.kripke_model.specs.declared.expressions.Value.TheVariants.{Number}
use Rattle.kripke_model.specs.declared.expressions.Expr.{Expr}
use Rattle.kripke_model.specs.declared.expressions.Arm.{Arm}
use Rattle.kripke_model.specs.declared.expressions.BinOp.{BinOp}
use Rattle.kripke_model.specs.Term.{Term}
use Rattle.kripke_model.specs.Reading.{term_of, terms_in, arms_in}
use Rattle.kripke_model.specs.System.{value_in}
use Rattle.kripke_model.specs.Evaluation.{Checked, eval, eval_elements, eval_arms, runs, truth, boolean, ◌>>=◌}
use Rattle.single_states.specs.Braces.{IsFilled}
use Rattle.single_states.specs.declared.evaluation.Summary.{Summary}
use Rattle.single_states.specs.Summary.{summarized, boolean_of}
use Rattle.single_states.specs.Outcomes.{added, first_added, gathered}
use Rattle.kripke_model.proofs.ReadingLemmas.{braces_term, case_term}
use Rattle.single_states.proofs.EvalLemmas.{binary_one, truth_one, bind_one}
use Rattle.single_states.proofs.ValuationLemmas.{filled_at, arm_filled_at, elements_filled, weight, weight_at, arm_weight_at, choice_past, arm_chosen, arm_passed, arm_fails, PassedOver}
use Rattle.single_states.proofs.OutcomeLemmas.{AddedSoFar, union_added, braces_added, one_added_at, element_added, added_fails}
use Rattle.single_states.proofs.outcomes.+gather.Goals as goal

-- ---- what the calls require

pub gather-gather_elements-requires : goal.gather-gather_elements-requires
gather-gather_elements-requires t c =
    let e : term_of c.args.expr.now ≡ Term.Braces (terms_in c.deref-in-Braces.result.now) = ap term_of c.in-Braces.is ∙ braces_term c.in-Braces.elements ∙ ap (λ (x : List Expr). Term.Braces (terms_in x)) (sym c.deref-in-Braces.ensures.value) in
    let w = ap weight e in
    (omega (arith, w), (elements_filled _ (subst (λ (x : Term). IsFilled x) e c.requires)).1)

pub gather-gather_chosen-requires : goal.gather-gather_chosen-requires
gather-gather_chosen-requires t c =
    let e : term_of c.args.expr.now ≡ Term.Case (arms_in c.deref-in-Case.result.now) = ap term_of c.in-Case.is ∙ case_term c.in-Case.arms ∙ ap (λ (x : List Arm). Term.Case (arms_in x)) (sym c.deref-in-Case.ensures.value) in
    let w = ap weight e in
    (omega (arith, w), subst (λ (x : Term). IsFilled x) e c.requires)

pub gather_chosen-summarize-requires : goal.gather_chosen-summarize-requires
gather_chosen-summarize-requires t c =
    subst (λ (a : Arm). IsFilled (term_of a.guard)) (sym c.arm-item.is) (arm_filled_at c.args.arms.now c.loop-arm.arm-index c.arm-item.result c.loop-arm-test.true c.requires).0

pub gather_chosen-gather-requires : goal.gather_chosen-gather-requires
gather_chosen-gather-requires t c =
    let e = c.arm-item.is in
    let w = arm_weight_at c.args.arms.now c.loop-arm.arm-index c.arm-item.result c.loop-arm-test.true in
    let u = ap (λ (a : Arm). weight (term_of a.right)) e in
    (omega (arith, w, u), subst (λ (a : Arm). IsFilled (term_of a.right)) (sym e) (arm_filled_at c.args.arms.now c.loop-arm.arm-index c.arm-item.result c.loop-arm-test.true c.requires).1)

pub gather_elements-gather-requires : goal.gather_elements-gather-requires
gather_elements-gather-requires t c =
    let e = c.e-item.is in
    let w = weight_at c.args.elements.now c.loop-e.e-index c.e-item.result c.loop-e-test.true in
    let u = ap (λ (x : Expr). weight (term_of x)) e in
    (omega (arith, w, u), subst (λ (x : Expr). IsFilled (term_of x)) (sym e) (filled_at c.args.elements.now c.loop-e.e-index c.e-item.result c.loop-e-test.true c.requires))

-- ---- operators

pub gather-returns-in-Ok : goal.gather-returns-in-Ok
gather-returns-in-Ok t c =
    let a : Term = term_of c.in-Binary.a.value in
    let b : Term = term_of c.in-Binary.b.value in
    let old : List Value = c.args.values.now.items in
    let new : List Value = c.gather-in-Union.new.values.items in
    let read : term_of c.args.expr.now ≡ Term.Binary c.in-Binary.op a b = ap term_of c.in-Binary.is in
    let e : term_of c.args.expr.now ≡ Term.Binary BinOp.Union a b = subst (λ (o : BinOp). term_of c.args.expr.now ≡ Term.Binary o a b) c.in-Union.is read in
    let left : added old (eval c.args.model.now a c.args.s.now c.args.t.now) ≡ Ok new =
    ap (λ (x : Expr). added old (eval c.args.model.now (term_of x) c.args.s.now c.args.t.now)) (sym c.deref-in-Union.ensures)
    ∙ sym c.in_ok-gather-in-Union.ensures ∙ ap (λ r. gathered r new) c.in-Ok.is in
    subst (λ (y : Checked (List Value)). IfOk c.gather-in-Ok.result (λ r. gathered r c.gather-in-Ok.new.values.items ≡ y))
    (ap (λ (x : Expr). added new (eval c.args.model.now (term_of x) c.args.s.now c.args.t.now)) c.deref-in-Ok.ensures
    ∙ sym (union_added old new (eval c.args.model.now a c.args.s.now c.args.t.now) (eval c.args.model.now b c.args.s.now c.args.t.now) left)
    ∙ ap (λ (x : Term). added old (eval c.args.model.now x c.args.s.now c.args.t.now)) (sym e))
    c.gather-in-Ok.ensures

pub gather-returns-in_default : goal.gather-returns-in_default
gather-returns-in_default t c =
    let a : Term = term_of c.in-Binary.a.value in
    let b : Term = term_of c.in-Binary.b.value in
    let old : List Value = c.args.values.now.items in
    subst (λ (y : Checked (List Value)). IfOk c.add_first.result (λ r. gathered r c.add_first.new.values.items ≡ y))
    (ap (first_added old) c.summarize.ensures
    ∙ one_added_at c.args.model.now c.args.s.now c.args.t.now old (term_of c.args.expr.now) (Term.Binary c.in-Binary.op a b) (ap term_of c.in-Binary.is) (binary_one c.in-Binary.op (eval c.args.model.now a c.args.s.now c.args.t.now) (eval c.args.model.now b c.args.s.now c.args.t.now) c.in_default.not-Union))
    c.add_first.ensures

pub gather-returns-in-Const : goal.gather-returns-in-Const
gather-returns-in-Const t c =
    let old : List Value = c.args.values.now.items in
    subst (λ (y : Checked (List Value)). IfOk c.add_first-in-Const.result (λ r. gathered r c.add_first-in-Const.new.values.items ≡ y))
    (ap (first_added old) c.summarize-in-Const.ensures
    ∙ elim c.in-Const.is [
      | inl a ↦ one_added_at c.args.model.now c.args.s.now c.args.t.now old (term_of c.args.expr.now) (Term.Const a.0) (ap term_of a.1) ((a.0, refl))
      | inr k ↦ elim k [
        | inl a ↦ one_added_at c.args.model.now c.args.s.now c.args.t.now old (term_of c.args.expr.now) (Term.Var a.0) (ap term_of a.1) ((value_in c.args.s.now a.0, refl))
        | inr k ↦ elim k [
          | inl a ↦ one_added_at c.args.model.now c.args.s.now c.args.t.now old (term_of c.args.expr.now) (Term.Running a.0) (ap term_of a.1) (truth_one (runs c.args.model.now c.args.s.now a.0))
          | inr k ↦ elim k [
            | inl a ↦ one_added_at c.args.model.now c.args.s.now c.args.t.now old (term_of c.args.expr.now) (Term.Not (term_of a.0.value)) (ap term_of a.1) (bind_one (eval c.args.model.now (term_of a.0.value) c.args.s.now c.args.t.now >>= boolean) (λ b. Ok (truth (not b))) (λ b. truth_one (not b)))
            | inr k ↦ elim k [
              | inl a ↦ one_added_at c.args.model.now c.args.s.now c.args.t.now old (term_of c.args.expr.now) (Term.Quant a.0 (term_of a.1.value)) (ap term_of a.2) (tt)
              | inr a ↦ one_added_at c.args.model.now c.args.s.now c.args.t.now old (term_of c.args.expr.now) (Term.Until a.0 (term_of a.1.value) (term_of a.2.value)) (ap term_of a.3) (tt)
            ]
          ]
        ]
      ]
    ])
    c.add_first-in-Const.ensures

-- ---- braces

pub gather-returns-in-Braces : goal.gather-returns-in-Braces
gather-returns-in-Braces t c =
    let old : List Value = c.args.values.now.items in
    let es : List Expr = c.in-Braces.elements.items in
    subst (λ (y : Checked (List Value)). IfOk c.gather_elements.result (λ r. gathered r c.gather_elements.new.values.items ≡ y))
    (ap (λ (x : List Expr). added old (eval_elements c.args.model.now (terms_in x) c.args.s.now c.args.t.now)) c.deref-in-Braces.ensures.value
    ∙ sym (braces_added old (eval_elements c.args.model.now (terms_in es) c.args.s.now c.args.t.now))
    ∙ ap (λ (x : Term). added old (eval c.args.model.now x c.args.s.now c.args.t.now)) (sym (ap term_of c.in-Braces.is ∙ braces_term c.in-Braces.elements)))
    c.gather_elements.ensures

pub gather_elements-loop-e-preserved : goal.gather_elements-loop-e-preserved
gather_elements-loop-e-preserved t c =
    let new : List Value = c.gather.new.values.items in
    let more : suc c.loop-e.e-index ≡ c.loop-e.e-index + 1 = omega arith in
    subst (λ (n : ℕ). AddedSoFar c.args.model.now c.args.s.now c.args.t.now c.args.elements.now c.args.values.now.items new n) more
    (element_added c.args.model.now c.args.s.now c.args.t.now c.args.elements.now c.args.values.now.items c.loop-e.values.items c.loop-e.e-index c.e-item.result c.loop-e-test.true c.loop-e.invariant new
    (ap (λ (x : Expr). added c.loop-e.values.items (eval c.args.model.now (term_of x) c.args.s.now c.args.t.now)) (sym c.e-item.is) ∙ sym c.in_ok-kind.ensures ∙ ap (λ r. gathered r new) c.in_default.is))

pub gather_elements-returns-in-Err : goal.gather_elements-returns-in-Err
gather_elements-returns-in-Err t c =
    let new : List Value = c.gather.new.values.items in
    sym (added_fails c.args.model.now c.args.s.now c.args.t.now c.args.elements.now c.args.values.now.items c.loop-e.values.items c.loop-e.e-index c.e-item.result c.loop-e-test.true c.loop-e.invariant c.in-Err.kind
    (ap (λ (x : Expr). added c.loop-e.values.items (eval c.args.model.now (term_of x) c.args.s.now c.args.t.now)) (sym c.e-item.is) ∙ sym c.in_ok-kind.ensures ∙ ap (λ r. gathered r new) c.in-Err.is))

-- ---- `case`

pub gather-returns-in-Case : goal.gather-returns-in-Case
gather-returns-in-Case t c =
    let old : List Value = c.args.values.now.items in
    subst (λ (y : Checked (List Value)). IfOk c.gather_chosen.result (λ r. gathered r c.gather_chosen.new.values.items ≡ y))
    (ap (λ (x : List Arm). added old (eval_arms c.args.model.now (arms_in x) c.args.s.now c.args.t.now)) c.deref-in-Case.ensures.value
    ∙ ap (λ (x : Term). added old (eval c.args.model.now x c.args.s.now c.args.t.now)) (sym (ap term_of c.in-Case.is ∙ case_term c.in-Case.arms)))
    c.gather_chosen.ensures

pub gather_chosen-loop-arm-preserved : goal.gather_chosen-loop-arm-preserved
gather_chosen-loop-arm-preserved t c =
    let more : suc c.loop-arm.arm-index ≡ c.loop-arm.arm-index + 1 = omega arith in
    (subst (λ (n : ℕ). PassedOver c.args.model.now c.args.s.now c.args.t.now c.args.arms.now n) more (arm_passed c.args.model.now c.args.s.now c.args.t.now c.args.arms.now c.loop-arm.arm-index c.arm-item.result c.loop-arm-test.true c.requires c.loop-arm.invariant.0 (ap (λ (x : Arm). boolean_of (summarized (eval c.args.model.now (term_of x.guard) c.args.s.now c.args.t.now))) (sym c.arm-item.is) ∙ ap boolean_of (sym c.summarize.ensures) ∙ sym c.boolean_of.ensures ∙ c.in-Ok-false.is ∙ ap Ok c.in-Ok-false.field-0-test)), c.loop-arm.invariant.1)

pub gather_chosen-returns-in-Ok-true : goal.gather_chosen-returns-in-Ok-true
gather_chosen-returns-in-Ok-true t c =
    subst (λ (y : Checked (List Value)). IfOk c.gather.result (λ r. gathered r c.gather.new.values.items ≡ y))
    (ap (λ (vs : List Value). added vs (eval c.args.model.now (term_of c.arm-item.result.right) c.args.s.now c.args.t.now)) c.loop-arm.invariant.1
    ∙ ap (λ (x : Arm). added c.args.values.now.items (eval c.args.model.now (term_of x.right) c.args.s.now c.args.t.now)) c.arm-item.is
    ∙ sym (ap (added c.args.values.now.items) (arm_chosen c.args.model.now c.args.s.now c.args.t.now c.args.arms.now c.loop-arm.arm-index c.arm-item.result c.loop-arm-test.true c.requires c.loop-arm.invariant.0 (ap (λ (x : Arm). boolean_of (summarized (eval c.args.model.now (term_of x.guard) c.args.s.now c.args.t.now))) (sym c.arm-item.is) ∙ ap boolean_of (sym c.summarize.ensures) ∙ sym c.boolean_of.ensures ∙ c.in-Ok-true.is ∙ ap Ok c.in-Ok-true.field-0-test))))
    c.gather.ensures

pub gather_chosen-returns-in-Err : goal.gather_chosen-returns-in-Err
gather_chosen-returns-in-Err t c =
    sym (ap (added c.args.values.now.items) (arm_fails c.args.model.now c.args.s.now c.args.t.now c.args.arms.now c.loop-arm.arm-index c.arm-item.result c.loop-arm-test.true c.requires c.loop-arm.invariant.0 c.in-Err.kind (ap (λ (x : Arm). boolean_of (summarized (eval c.args.model.now (term_of x.guard) c.args.s.now c.args.t.now))) (sym c.arm-item.is) ∙ ap boolean_of (sym c.summarize.ensures) ∙ sym c.boolean_of.ensures ∙ c.in-Err.is)))

pub gather_chosen-returns : goal.gather_chosen-returns
gather_chosen-returns t c =
    subst (λ (y : Checked (List Value)). IfOk c.add_first.result (λ r. gathered r c.add_first.new.values.items ≡ y))
    (ap (λ (v : Value). added c.loop-arm.values.items (Ok (v ∷ []))) (ap (λ (x : Summary). x.first) c.one.ensures ∙ c.truth.ensures)
    ∙ ap (λ (vs : List Value). added vs (Ok (Number (pos 1) ∷ []))) c.loop-arm.invariant.1
    ∙ sym (ap (added c.args.values.now.items) (c.loop-arm.invariant.0 ∙ choice_past c.args.model.now c.args.s.now c.args.t.now c.args.arms.now c.loop-arm.arm-index c.loop-arm-test.false)))
    c.add_first.ensures
