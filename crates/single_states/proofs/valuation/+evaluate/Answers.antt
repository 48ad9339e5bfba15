use Rattle.std.proofs.Common.{◌≡◌, ℕ, suc, ◌+◌, Bool, true, false, not, Ok, Err, inl, inr, List, refl, sym, ◌∙◌, ap, arith, rules, subst, add-one}
use Rattle.kripke_model.specs.declared.expressions.Expr.{Expr}
use Rattle.kripke_model.specs.declared.expressions.Arm.{Arm}
use Rattle.kripke_model.specs.declared.expressions.BinOp.{BinOp}
use Rattle.kripke_model.specs.Term.{Term}
use Rattle.kripke_model.specs.Reading.{term_of, terms_in, arms_in}
use Rattle.kripke_model.specs.System.{value_in}
use Rattle.kripke_model.specs.Evaluation.{eval, eval_elements, eval_arms, runs, truth, boolean, ◌>>=◌}
use Rattle.single_states.specs.Braces.{IsFilled}
use Rattle.single_states.specs.Summary.{summarized, found, negated, united, combined, either, first_is, decided, single_of, boolean_of}
use Rattle.kripke_model.proofs.ReadingLemmas.{braces_term, case_term}
use Rattle.single_states.proofs.EvalLemmas.{eval_good, not-summary, union-summary, binary-summary, braces-summary, braces_found, union_found, first_found_at, binary_one, single_valued, member_ok, member_fails, truth_one, bind_one}
use Rattle.single_states.proofs.ValuationLemmas.{filled_at, arm_filled_at, elements_filled, weight, weight_at, arm_weight_at, first_element, next_element, arm_chosen, arm_passed, arm_fails, found_start, found_next, found_element_fails, PassedOver, FoundSoFar}
use Rattle.single_states.proofs.valuation.+evaluate.Goals as goal
use Rattle.single_states.proofs.valuation.+evaluate.Goals.{has_in_elements-then-branch, has_in_elements-else-branch}

pub summarize-returns-in-Not : goal.summarize-returns-in-Not
summarize-returns-in-Not t c =
    let e : Expr = c.in-Not.e.value in
    let good : IsFilled (term_of e) = rw c.in-Not.is at c.requires in
    c.negated.ensures
    ∙ ap negated (c.summarize-in-Not.ensures ∙ ap (λ (x : Expr). summarized (eval c.args.model.now (term_of x) c.args.s.now c.args.t.now)) c.deref-in-Not.ensures)
    ∙ sym (not-summary (eval c.args.model.now (term_of e) c.args.s.now c.args.t.now) (eval_good c.args.model.now (term_of e) c.args.s.now c.args.t.now good))
    ∙ ap (λ (x : Expr). summarized (eval c.args.model.now (term_of x) c.args.s.now c.args.t.now)) (sym c.in-Not.is)

pub summarize-returns-in-Braces : goal.summarize-returns-in-Braces
summarize-returns-in-Braces t c =
    let es : List Expr = c.in-Braces.elements.items in
    c.summarize_elements.ensures
    ∙ ap (λ (x : List Expr). summarized (eval_elements c.args.model.now (terms_in x) c.args.s.now c.args.t.now)) c.deref-in-Braces.ensures.value
    ∙ sym (braces-summary (eval_elements c.args.model.now (terms_in es) c.args.s.now c.args.t.now))
    ∙ ap (λ (x : Term). summarized (eval c.args.model.now x c.args.s.now c.args.t.now)) (sym (ap term_of c.in-Braces.is ∙ braces_term c.in-Braces.elements))

pub summarize-returns-in-Case : goal.summarize-returns-in-Case
summarize-returns-in-Case t c =
    c.summarize_arms.ensures
    ∙ ap (λ (x : List Arm). summarized (eval_arms c.args.model.now (arms_in x) c.args.s.now c.args.t.now)) c.deref-in-Case.ensures.value
    ∙ ap (λ (x : Term). summarized (eval c.args.model.now x c.args.s.now c.args.t.now)) (sym (ap term_of c.in-Case.is ∙ case_term c.in-Case.arms))

pub has-returns-in-Braces : goal.has-returns-in-Braces
has-returns-in-Braces t c =
    let es : List Expr = c.in-Braces.elements.items in
    c.has_in_elements.ensures
    ∙ ap (λ (x : List Expr). found c.args.v (eval_elements c.args.model.now (terms_in x) c.args.s.now c.args.t.now)) c.deref-in-Braces.ensures.value
    ∙ sym (braces_found c.args.v (eval_elements c.args.model.now (terms_in es) c.args.s.now c.args.t.now))
    ∙ ap (λ (x : Term). found c.args.v (eval c.args.model.now x c.args.s.now c.args.t.now)) (sym (ap term_of c.in-Braces.is ∙ braces_term c.in-Braces.elements))

pub has-returns-in-Case : goal.has-returns-in-Case
has-returns-in-Case t c =
    c.has_in_arms.ensures
    ∙ ap (λ (x : List Arm). found c.args.v (eval_arms c.args.model.now (arms_in x) c.args.s.now c.args.t.now)) c.deref-in-Case.ensures.value
    ∙ ap (λ (x : Term). found c.args.v (eval c.args.model.now x c.args.s.now c.args.t.now)) (sym (ap term_of c.in-Case.is ∙ case_term c.in-Case.arms))

pub has-has_in_elements-requires : goal.has-has_in_elements-requires
has-has_in_elements-requires t c =
    let e : term_of c.args.expr.now ≡ Term.Braces (terms_in c.deref-in-Braces.result.now) = ap term_of c.in-Braces.is ∙ braces_term c.in-Braces.elements ∙ ap (λ (x : List Expr). Term.Braces (terms_in x)) (sym c.deref-in-Braces.ensures.value) in
    let w = ap weight e in
    (omega (arith, w), (elements_filled _ (subst (λ (x : Term). IsFilled x) e c.requires)).1)

pub has-has_in_arms-requires : goal.has-has_in_arms-requires
has-has_in_arms-requires t c =
    let e : term_of c.args.expr.now ≡ Term.Case (arms_in c.deref-in-Case.result.now) = ap term_of c.in-Case.is ∙ case_term c.in-Case.arms ∙ ap (λ (x : List Arm). Term.Case (arms_in x)) (sym c.deref-in-Case.ensures.value) in
    let w = ap weight e in
    (omega (arith, w), subst (λ (x : Term). IsFilled x) e c.requires)

pub summarize-summarize_elements-requires : goal.summarize-summarize_elements-requires
summarize-summarize_elements-requires t c =
    let e : term_of c.args.expr.now ≡ Term.Braces (terms_in c.deref-in-Braces.result.now) = ap term_of c.in-Braces.is ∙ braces_term c.in-Braces.elements ∙ ap (λ (x : List Expr). Term.Braces (terms_in x)) (sym c.deref-in-Braces.ensures.value) in
    let w = ap weight e in
    (omega (arith, w), (elements_filled _ (subst (λ (x : Term). IsFilled x) e c.requires)))

pub summarize-summarize_arms-requires : goal.summarize-summarize_arms-requires
summarize-summarize_arms-requires t c =
    let e : term_of c.args.expr.now ≡ Term.Case (arms_in c.deref-in-Case.result.now) = ap term_of c.in-Case.is ∙ case_term c.in-Case.arms ∙ ap (λ (x : List Arm). Term.Case (arms_in x)) (sym c.deref-in-Case.ensures.value) in
    let w = ap weight e in
    (omega (arith, w), subst (λ (x : Term). IsFilled x) e c.requires)

pub has_in_arms-summarize-requires : goal.has_in_arms-summarize-requires
has_in_arms-summarize-requires t c =
    let e = c.arm-item.is in
    let w = arm_weight_at c.args.arms.now c.loop-arm.arm-index c.arm-item.result c.loop-arm-test.true in
    let u = ap (λ (a : Arm). weight (term_of a.guard)) e in
    (omega (arith, w, u), subst (λ (a : Arm). IsFilled (term_of a.guard)) (sym e) (arm_filled_at c.args.arms.now c.loop-arm.arm-index c.arm-item.result c.loop-arm-test.true c.requires).0)

pub has_in_arms-has-requires : goal.has_in_arms-has-requires
has_in_arms-has-requires t c =
    let e = c.arm-item.is in
    let w = arm_weight_at c.args.arms.now c.loop-arm.arm-index c.arm-item.result c.loop-arm-test.true in
    let u = ap (λ (a : Arm). weight (term_of a.right)) e in
    (omega (arith, w, u), subst (λ (a : Arm). IsFilled (term_of a.right)) (sym e) (arm_filled_at c.args.arms.now c.loop-arm.arm-index c.arm-item.result c.loop-arm-test.true c.requires).1)

pub summarize_arms-summarize-requires : goal.summarize_arms-summarize-requires
summarize_arms-summarize-requires t c =
    let e = c.arm-item.is in
    let w = arm_weight_at c.args.arms.now c.loop-arm.arm-index c.arm-item.result c.loop-arm-test.true in
    let u = ap (λ (a : Arm). weight (term_of a.guard)) e in
    (omega (arith, w, u), subst (λ (a : Arm). IsFilled (term_of a.guard)) (sym e) (arm_filled_at c.args.arms.now c.loop-arm.arm-index c.arm-item.result c.loop-arm-test.true c.requires).0)

pub summarize_arms-summarize-requires-then-chosen : goal.summarize_arms-summarize-requires-then-chosen
summarize_arms-summarize-requires-then-chosen t c =
    let e = c.arm-item.is in
    let w = arm_weight_at c.args.arms.now c.loop-arm.arm-index c.arm-item.result c.loop-arm-test.true in
    let u = ap (λ (a : Arm). weight (term_of a.right)) e in
    (omega (arith, w, u), subst (λ (a : Arm). IsFilled (term_of a.right)) (sym e) (arm_filled_at c.args.arms.now c.loop-arm.arm-index c.arm-item.result c.loop-arm-test.true c.requires).1)

pub has_in_elements-has-requires : goal.has_in_elements-has-requires
has_in_elements-has-requires t c =
    let e = c.e-item.is in
    let w = weight_at c.args.elements.now c.loop-e.e-index c.e-item.result c.loop-e-test.true in
    let u = ap (λ (x : Expr). weight (term_of x)) e in
    (omega (arith, w, u), subst (λ (x : Expr). IsFilled (term_of x)) (sym e) (filled_at c.args.elements.now c.loop-e.e-index c.e-item.result c.loop-e-test.true c.requires))

pub summarize_elements-summarize-requires-in-loop-i : goal.summarize_elements-summarize-requires-in-loop-i
summarize_elements-summarize-requires-in-loop-i t c =
    let e = c.index-elements-i.is in
    let w = weight_at c.args.elements.now c.loop-i.i c.index-elements-i.result c.loop-i-test.true in
    let u = ap (λ (x : Expr). weight (term_of x)) e in
    (omega (arith, w, u), subst (λ (x : Expr). IsFilled (term_of x)) (sym e) (filled_at c.args.elements.now c.loop-i.i c.index-elements-i.result c.loop-i-test.true c.requires.filled))

pub summarize_elements-loop-i-init : goal.summarize_elements-loop-i-init
summarize_elements-loop-i-init t c =
    let e = c.index-elements-0.is in
    first_element c.args.model.now c.args.s.now c.args.t.now c.args.elements.now 0 c.index-elements-0.result c.requires.some c.requires.filled c.in_ok-all.all refl
    (ap (λ (x : Expr). summarized (eval c.args.model.now (term_of x) c.args.s.now c.args.t.now)) (sym e) ∙ sym c.summarize.ensures ∙ c.in_ok-all.was)

pub summarize_elements-loop-i-preserved : goal.summarize_elements-loop-i-preserved
summarize_elements-loop-i-preserved t c =
    let e = c.index-elements-i.is in
    rw (add-one, c.join-all.ensures)
    (next_element c.args.model.now c.args.s.now c.args.t.now c.args.elements.now c.loop-i.i c.index-elements-i.result c.loop-i-test.true c.requires.filled c.loop-i.all c.in_ok-next.next c.loop-i.invariant
    (ap (λ (x : Expr). summarized (eval c.args.model.now (term_of x) c.args.s.now c.args.t.now)) (sym e) ∙ sym c.summarize-in-loop-i.ensures ∙ c.in_ok-next.was))

pub summarize-returns-in-Union : goal.summarize-returns-in-Union
summarize-returns-in-Union t c =
    let a : Term = term_of c.in-Binary.a.value in
    let b : Term = term_of c.in-Binary.b.value in
    let read : term_of c.args.expr.now ≡ Term.Binary c.in-Binary.op a b = ap term_of c.in-Binary.is in
    let e : term_of c.args.expr.now ≡ Term.Binary BinOp.Union a b = subst (λ (o : BinOp). term_of c.args.expr.now ≡ Term.Binary o a b) c.in-Union.is read in
    let good : IsFilled a × IsFilled b = subst (λ (x : Term). IsFilled x) e c.requires in
    c.united.ensures
    ∙ (λ i. united ((c.summarize-in-Union.ensures ∙ ap (λ (x : Expr). summarized (eval c.args.model.now (term_of x) c.args.s.now c.args.t.now)) c.deref-in-Union.ensures) i) ((c.summarize-in-Union-2.ensures ∙ ap (λ (x : Expr). summarized (eval c.args.model.now (term_of x) c.args.s.now c.args.t.now)) c.deref-in-Union-2.ensures) i))
    ∙ sym (union-summary (eval c.args.model.now a c.args.s.now c.args.t.now) (eval c.args.model.now b c.args.s.now c.args.t.now) (eval_good c.args.model.now a c.args.s.now c.args.t.now good.0) (eval_good c.args.model.now b c.args.s.now c.args.t.now good.1))
    ∙ ap (λ (x : Term). summarized (eval c.args.model.now x c.args.s.now c.args.t.now)) (sym e)

pub has-returns-in-Union : goal.has-returns-in-Union
has-returns-in-Union t c =
    let a : Term = term_of c.in-Binary.a.value in
    let b : Term = term_of c.in-Binary.b.value in
    let read : term_of c.args.expr.now ≡ Term.Binary c.in-Binary.op a b = ap term_of c.in-Binary.is in
    let e : term_of c.args.expr.now ≡ Term.Binary BinOp.Union a b = subst (λ (o : BinOp). term_of c.args.expr.now ≡ Term.Binary o a b) c.in-Union.is read in
    let good : IsFilled a × IsFilled b = subst (λ (x : Term). IsFilled x) e c.requires in
    c.either.ensures
    ∙ (λ i. either ((c.has-in-Union.ensures ∙ ap (λ (x : Expr). found c.args.v (eval c.args.model.now (term_of x) c.args.s.now c.args.t.now)) c.deref-in-Union.ensures) i) ((c.has-in-Union-2.ensures ∙ ap (λ (x : Expr). found c.args.v (eval c.args.model.now (term_of x) c.args.s.now c.args.t.now)) c.deref-in-Union-2.ensures) i))
    ∙ sym (union_found c.args.v (eval c.args.model.now a c.args.s.now c.args.t.now) (eval c.args.model.now b c.args.s.now c.args.t.now))
    ∙ ap (λ (x : Term). found c.args.v (eval c.args.model.now x c.args.s.now c.args.t.now)) (sym e)

pub summarize-returns-in_default : goal.summarize-returns-in_default
summarize-returns-in_default t c =
    let a : Term = term_of c.in-Binary.a.value in
    let b : Term = term_of c.in-Binary.b.value in
    let read : term_of c.args.expr.now ≡ Term.Binary c.in-Binary.op a b = ap term_of c.in-Binary.is in
    let e : term_of c.args.expr.now ≡ Term.Binary c.in-Binary.op a b = read in
    let good : IsFilled a × IsFilled b = subst (λ (x : Term). IsFilled x) e c.requires in
    c.combined.ensures
    ∙ (λ i. combined c.in-Binary.op ((c.summarize-in_default.ensures ∙ ap (λ (x : Expr). summarized (eval c.args.model.now (term_of x) c.args.s.now c.args.t.now)) c.deref-in_default.ensures) i) ((c.summarize-in_default-2.ensures ∙ ap (λ (x : Expr). summarized (eval c.args.model.now (term_of x) c.args.s.now c.args.t.now)) c.deref-in_default-2.ensures) i))
    ∙ sym (binary-summary (eval c.args.model.now a c.args.s.now c.args.t.now) (eval c.args.model.now b c.args.s.now c.args.t.now) (eval_good c.args.model.now a c.args.s.now c.args.t.now good.0) (eval_good c.args.model.now b c.args.s.now c.args.t.now good.1) c.in-Binary.op (single_valued c.in-Binary.op c.in_default.not-Union c.in_default.not-Member))
    ∙ ap (λ (x : Term). summarized (eval c.args.model.now x c.args.s.now c.args.t.now)) (sym e)

pub summarize-returns-in_ok-v-in-Member : goal.summarize-returns-in_ok-v-in-Member
summarize-returns-in_ok-v-in-Member t c =
    let a : Term = term_of c.in-Binary.a.value in
    let b : Term = term_of c.in-Binary.b.value in
    let read : term_of c.args.expr.now ≡ Term.Binary c.in-Binary.op a b = ap term_of c.in-Binary.is in
    let e : term_of c.args.expr.now ≡ Term.Binary BinOp.Member a b = subst (λ (o : BinOp). term_of c.args.expr.now ≡ Term.Binary o a b) c.in-Member.is read in
    let good : IsFilled a × IsFilled b = subst (λ (x : Term). IsFilled x) e c.requires in
    let p : single_of (summarized (eval c.args.model.now a c.args.s.now c.args.t.now)) ≡ Ok c.in_ok-v-in-Member.v = ap (λ (x : Expr). single_of (summarized (eval c.args.model.now (term_of x) c.args.s.now c.args.t.now))) (sym c.deref-in-Member.ensures) ∙ ap single_of (sym c.summarize-in-Member.ensures) ∙ sym c.single_of.ensures ∙ c.in_ok-v-in-Member.was in
    c.decided.ensures
    ∙ ap decided (c.has.ensures ∙ ap (λ (x : Expr). found c.in_ok-v-in-Member.v (eval c.args.model.now (term_of x) c.args.s.now c.args.t.now)) c.deref-in-Member-2.ensures)
    ∙ sym (member_ok (eval c.args.model.now a c.args.s.now c.args.t.now) (eval c.args.model.now b c.args.s.now c.args.t.now) (eval_good c.args.model.now a c.args.s.now c.args.t.now good.0) c.in_ok-v-in-Member.v p)
    ∙ ap (λ (x : Term). summarized (eval c.args.model.now x c.args.s.now c.args.t.now)) (sym e)

pub summarize-returns-in_err-v-in-Member : goal.summarize-returns-in_err-v-in-Member
summarize-returns-in_err-v-in-Member t c =
    let a : Term = term_of c.in-Binary.a.value in
    let b : Term = term_of c.in-Binary.b.value in
    let read : term_of c.args.expr.now ≡ Term.Binary c.in-Binary.op a b = ap term_of c.in-Binary.is in
    let e : term_of c.args.expr.now ≡ Term.Binary BinOp.Member a b = subst (λ (o : BinOp). term_of c.args.expr.now ≡ Term.Binary o a b) c.in-Member.is read in
    let good : IsFilled a × IsFilled b = subst (λ (x : Term). IsFilled x) e c.requires in
    let p : single_of (summarized (eval c.args.model.now a c.args.s.now c.args.t.now)) ≡ Err c.in_err-v-in-Member.field-0.0 = ap (λ (x : Expr). single_of (summarized (eval c.args.model.now (term_of x) c.args.s.now c.args.t.now))) (sym c.deref-in-Member.ensures) ∙ ap single_of (sym c.summarize-in-Member.ensures) ∙ sym c.single_of.ensures ∙ c.in_err-v-in-Member.was in
    let k : summarized (eval c.args.model.now (term_of c.args.expr.now) c.args.s.now c.args.t.now) ≡ Err c.in_err-v-in-Member.field-0.0 = ap (λ (x : Term). summarized (eval c.args.model.now x c.args.s.now c.args.t.now)) e ∙ member_fails (eval c.args.model.now a c.args.s.now c.args.t.now) (eval c.args.model.now b c.args.s.now c.args.t.now) (eval_good c.args.model.now a c.args.s.now c.args.t.now good.0) c.in_err-v-in-Member.field-0.0 p in
    search rules

pub has-returns-in_default : goal.has-returns-in_default
has-returns-in_default t c =
    let a : Term = term_of c.in-Binary.a.value in
    let b : Term = term_of c.in-Binary.b.value in
    c.first_is.ensures ∙ ap (λ x. first_is x c.args.v) c.summarize.ensures
    ∙ first_found_at c.args.model.now c.args.s.now c.args.t.now c.args.v (term_of c.args.expr.now) (Term.Binary c.in-Binary.op a b) (ap term_of c.in-Binary.is) (binary_one c.in-Binary.op (eval c.args.model.now a c.args.s.now c.args.t.now) (eval c.args.model.now b c.args.s.now c.args.t.now) c.in_default.not-Union)

pub has-returns-in-Const : goal.has-returns-in-Const
has-returns-in-Const t c =
    c.first_is-in-Const.ensures ∙ ap (λ x. first_is x c.args.v) c.summarize-in-Const.ensures
    ∙ elim c.in-Const.is [
      | inl a ↦ first_found_at c.args.model.now c.args.s.now c.args.t.now c.args.v (term_of c.args.expr.now) (Term.Const a.0) (ap term_of a.1) ((a.0, refl))
      | inr k ↦ elim k [
        | inl a ↦ first_found_at c.args.model.now c.args.s.now c.args.t.now c.args.v (term_of c.args.expr.now) (Term.Var a.0) (ap term_of a.1) ((value_in c.args.s.now a.0, refl))
        | inr k ↦
            elim k [
              | inl a ↦ first_found_at c.args.model.now c.args.s.now c.args.t.now c.args.v (term_of c.args.expr.now) (Term.Running a.0) (ap term_of a.1) (truth_one (runs c.args.model.now c.args.s.now a.0))
              | inr k ↦
                  elim k [
                    | inl a ↦ first_found_at c.args.model.now c.args.s.now c.args.t.now c.args.v (term_of c.args.expr.now) (Term.Not (term_of a.0.value)) (ap term_of a.1) (bind_one (eval c.args.model.now (term_of a.0.value) c.args.s.now c.args.t.now >>= boolean) (λ b. Ok (truth (not b))) (λ b. truth_one (not b)))
                    | inr k ↦
                        elim k [ inl a ↦ first_found_at c.args.model.now c.args.s.now c.args.t.now c.args.v (term_of c.args.expr.now) (Term.Quant a.0 (term_of a.1.value)) (ap term_of a.2) (tt) | inr a ↦ first_found_at c.args.model.now c.args.s.now c.args.t.now c.args.v (term_of c.args.expr.now) (Term.Until a.0 (term_of a.1.value) (term_of a.2.value)) (ap term_of a.3) (tt) ]
                  ]
            ]
      ]
    ]

pub has_in_arms-returns-then-chosen : goal.has_in_arms-returns-then-chosen
has_in_arms-returns-then-chosen t c =
    c.has.ensures
    ∙ ap (λ (x : Arm). found c.args.v (eval c.args.model.now (term_of x.right) c.args.s.now c.args.t.now)) c.arm-item.is
    ∙ sym (ap (found c.args.v) (arm_chosen c.args.model.now c.args.s.now c.args.t.now c.args.arms.now c.loop-arm.arm-index c.arm-item.result c.loop-arm-test.true c.requires c.loop-arm.invariant (ap (λ (x : Arm). boolean_of (summarized (eval c.args.model.now (term_of x.guard) c.args.s.now c.args.t.now))) (sym c.arm-item.is) ∙ ap boolean_of (sym c.summarize.ensures) ∙ sym c.boolean_of.ensures ∙ c.in_ok-chosen.was ∙ ap Ok c.if-chosen.true)))

pub has_in_arms-loop-arm-preserved : goal.has_in_arms-loop-arm-preserved
has_in_arms-loop-arm-preserved t c =
    let more : suc c.loop-arm.arm-index ≡ c.loop-arm.arm-index + 1 = omega arith in
    subst (λ (n : ℕ). PassedOver c.args.model.now c.args.s.now c.args.t.now c.args.arms.now n) more (arm_passed c.args.model.now c.args.s.now c.args.t.now c.args.arms.now c.loop-arm.arm-index c.arm-item.result c.loop-arm-test.true c.requires c.loop-arm.invariant (ap (λ (x : Arm). boolean_of (summarized (eval c.args.model.now (term_of x.guard) c.args.s.now c.args.t.now))) (sym c.arm-item.is) ∙ ap boolean_of (sym c.summarize.ensures) ∙ sym c.boolean_of.ensures ∙ c.in_ok-chosen.was ∙ ap Ok c.if-chosen.false))

pub has_in_arms-returns-in_err-chosen : goal.has_in_arms-returns-in_err-chosen
has_in_arms-returns-in_err-chosen t c =
    let k : found c.args.v (eval_arms c.args.model.now (arms_in c.args.arms.now) c.args.s.now c.args.t.now) ≡ Err c.in_err-chosen.field-0.0 = ap (found c.args.v) (arm_fails c.args.model.now c.args.s.now c.args.t.now c.args.arms.now c.loop-arm.arm-index c.arm-item.result c.loop-arm-test.true c.requires c.loop-arm.invariant c.in_err-chosen.field-0.0 (ap (λ (x : Arm). boolean_of (summarized (eval c.args.model.now (term_of x.guard) c.args.s.now c.args.t.now))) (sym c.arm-item.is) ∙ ap boolean_of (sym c.summarize.ensures) ∙ sym c.boolean_of.ensures ∙ c.in_err-chosen.was)) in
    search rules

pub summarize_arms-returns-then-chosen : goal.summarize_arms-returns-then-chosen
summarize_arms-returns-then-chosen t c =
    c.summarize-then-chosen.ensures
    ∙ ap (λ (x : Arm). summarized (eval c.args.model.now (term_of x.right) c.args.s.now c.args.t.now)) c.arm-item.is
    ∙ sym (ap (summarized) (arm_chosen c.args.model.now c.args.s.now c.args.t.now c.args.arms.now c.loop-arm.arm-index c.arm-item.result c.loop-arm-test.true c.requires c.loop-arm.invariant (ap (λ (x : Arm). boolean_of (summarized (eval c.args.model.now (term_of x.guard) c.args.s.now c.args.t.now))) (sym c.arm-item.is) ∙ ap boolean_of (sym c.summarize.ensures) ∙ sym c.boolean_of.ensures ∙ c.in_ok-chosen.was ∙ ap Ok c.if-chosen.true)))

pub summarize_arms-loop-arm-preserved : goal.summarize_arms-loop-arm-preserved
summarize_arms-loop-arm-preserved t c =
    let more : suc c.loop-arm.arm-index ≡ c.loop-arm.arm-index + 1 = omega arith in
    subst (λ (n : ℕ). PassedOver c.args.model.now c.args.s.now c.args.t.now c.args.arms.now n) more (arm_passed c.args.model.now c.args.s.now c.args.t.now c.args.arms.now c.loop-arm.arm-index c.arm-item.result c.loop-arm-test.true c.requires c.loop-arm.invariant (ap (λ (x : Arm). boolean_of (summarized (eval c.args.model.now (term_of x.guard) c.args.s.now c.args.t.now))) (sym c.arm-item.is) ∙ ap boolean_of (sym c.summarize.ensures) ∙ sym c.boolean_of.ensures ∙ c.in_ok-chosen.was ∙ ap Ok c.if-chosen.false))

pub summarize_arms-returns-in_err-chosen : goal.summarize_arms-returns-in_err-chosen
summarize_arms-returns-in_err-chosen t c =
    let k : summarized (eval_arms c.args.model.now (arms_in c.args.arms.now) c.args.s.now c.args.t.now) ≡ Err c.in_err-chosen.field-0.0 = ap (summarized) (arm_fails c.args.model.now c.args.s.now c.args.t.now c.args.arms.now c.loop-arm.arm-index c.arm-item.result c.loop-arm-test.true c.requires c.loop-arm.invariant c.in_err-chosen.field-0.0 (ap (λ (x : Arm). boolean_of (summarized (eval c.args.model.now (term_of x.guard) c.args.s.now c.args.t.now))) (sym c.arm-item.is) ∙ ap boolean_of (sym c.summarize.ensures) ∙ sym c.boolean_of.ensures ∙ c.in_err-chosen.was)) in
    search rules

pub has_in_elements-loop-e-preserved : goal.has_in_elements-loop-e-preserved
has_in_elements-loop-e-preserved t c =
    let more : suc c.loop-e.e-index ≡ c.loop-e.e-index + 1 = omega arith in
    subst (λ (n : ℕ). FoundSoFar c.args.model.now c.args.s.now c.args.t.now c.args.elements.now c.args.v n c.if-branch.seen) more
    (elim c.if-branch.branch [
      | has_in_elements-then-branch w ↦ subst (λ (b : Bool). FoundSoFar c.args.model.now c.args.s.now c.args.t.now c.args.elements.now c.args.v (suc c.loop-e.e-index) b) (sym w.seen-is) (found_next c.args.model.now c.args.s.now c.args.t.now c.args.elements.now c.args.v c.loop-e.e-index c.e-item.result c.loop-e-test.true c.loop-e.seen c.loop-e.invariant true (ap (λ (x : Expr). found c.args.v (eval c.args.model.now (term_of x) c.args.s.now c.args.t.now)) (sym c.e-item.is) ∙ sym c.has.ensures ∙ c.in_ok-has.was ∙ ap Ok w.if-branch.true))
      | has_in_elements-else-branch w ↦ subst (λ (b : Bool). FoundSoFar c.args.model.now c.args.s.now c.args.t.now c.args.elements.now c.args.v (suc c.loop-e.e-index) b) (sym w.seen-is) (found_next c.args.model.now c.args.s.now c.args.t.now c.args.elements.now c.args.v c.loop-e.e-index c.e-item.result c.loop-e-test.true c.loop-e.seen c.loop-e.invariant false (ap (λ (x : Expr). found c.args.v (eval c.args.model.now (term_of x) c.args.s.now c.args.t.now)) (sym c.e-item.is) ∙ sym c.has.ensures ∙ c.in_ok-has.was ∙ ap Ok w.if-branch.false))
    ])

pub has_in_elements-loop-e-init : goal.has_in_elements-loop-e-init
has_in_elements-loop-e-init t c = found_start c.args.model.now c.args.s.now c.args.t.now c.args.elements.now c.args.v

pub has_in_elements-returns-in_err-has : goal.has_in_elements-returns-in_err-has
has_in_elements-returns-in_err-has t c =
    let k : found c.args.v (eval_elements c.args.model.now (terms_in c.args.elements.now) c.args.s.now c.args.t.now) ≡ Err c.in_err-has.field-0.0 = found_element_fails c.args.model.now c.args.s.now c.args.t.now c.args.elements.now c.args.v c.loop-e.e-index c.e-item.result c.loop-e-test.true c.loop-e.seen c.loop-e.invariant c.in_err-has.field-0.0 (ap (λ (x : Expr). found c.args.v (eval c.args.model.now (term_of x) c.args.s.now c.args.t.now)) (sym c.e-item.is) ∙ sym c.has.ensures ∙ c.in_err-has.was) in
    search rules
