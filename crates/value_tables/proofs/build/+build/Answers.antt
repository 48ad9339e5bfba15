use Rattle.std.proofs.Common.{◌≡◌, ◌+◌, ◌*◌, ◌/◌, ◌^◌, ◌<◌, ◌≤◌, length, take, ◌&&◌, ◌||◌, cond, drop, Bool, true, List, refl, sym, ◌∙◌, ap, arith, rules, subst}
use Rattle.std.proofs.lemmas.Bool.{false≢true}
use Rattle.bdd_nodes.specs.Store.{value_of, levels_of}
use Rattle.kripke_model.specs.Size.{term_nodes, element_nodes, arm_nodes}
use Rattle.bdd_nodes.proofs.Tables.{Grows-same, Grows-then}
use Rattle.kripke_model.specs.declared.expressions.Expr.{Expr}
use Rattle.kripke_model.specs.declared.expressions.Arm.{Arm}
use Rattle.kripke_model.specs.Term.{Term}
use Rattle.kripke_model.specs.Reading.{term_of, terms_in, arms_in}
use Rattle.kripke_model.specs.declared.expressions.Value.{Value}
use Rattle.kripke_model.specs.Evaluation.{Checked, ◌>>=◌, eval}
use Rattle.kripke_model.specs.Evaluable.{IsEvaluable, AreEvaluable, AreEvaluableArms}
use Rattle.kripke_model.proofs.ReadingLemmas.{braces_term, case_term}
use Rattle.value_tables.specs.Cells.{same_reading, any_of, shows, Reads, AreCells}
use Rattle.value_tables.specs.States.{meaning_of, arms_meaning, elements_meaning, state_shown}
use Rattle.value_tables.specs.Tables.{IsSetTable, guard_of, arm_shows, goes_on}
use Rattle.value_tables.proofs.RegionLemmas.{any_cell-grows, AreCells-grows, Keeps-same, keeps_join, Spends-same}
use Rattle.value_tables.proofs.StepLemmas.{if_ok}
use Rattle.value_tables.proofs.EvalLemmas.{eval_proper, arms_at, arms_past, arm_split}
use Rattle.value_tables.proofs.BuildLemmas.{operand, term_table, not_table, binary_table, braces_table, IsTable-grows, IsSetTable-grows, arm_evaluable_at, elements_some, elements_evaluable, arm_nodes_at, nodes-some, halves_nodes, halves_evaluable, halves_values, only_element, only_nodes, only_evaluable, element_table, only_table, united_table, no_cells, no_arms, last_arm}
use Rattle.value_tables.specs.declared.cells.Cell.{Cell}
use Rattle.value_tables.specs.Work.{Spends, allowance}
use Rattle.std.proofs.lemmas.Result.{err_from_is_err_and, on_ok_weaker}
use Rattle.value_tables.proofs.ReadingCounts.{eval_amount, elements_amount, term_nodes-some, table-few, set-few}
use Rattle.value_tables.proofs.GrowthLemmas.{nodes_of_arms, arms_step, arms_more_le, arms_all, variable_spends, running_spends, next_spends, not_spends, left_spends, both_spend, binary_spends, element_spends, half_spends, halves_spend, lists_spend, list_spends, arm_guard, arm_right, arm_spends, arms_spend}
use Rattle.value_tables.proofs.build.+build.Goals as goal

pub build-returns-in-Const-clause-table : goal.build-returns-in-Const-clause-table
build-returns-in-Const-clause-table g t c = term_table c.args.engine.now.store c.args.layout.now c.args.model.now c.args.next _ _ (sym (ap term_of c.in-Const.is)) c.everywhere.result c.everywhere.ensures.table

pub build-returns-in-Var-clause-table : goal.build-returns-in-Var-clause-table
build-returns-in-Var-clause-table g t c = term_table c.variable.new.engine.store c.args.layout.now c.args.model.now c.args.next _ _ (sym (ap term_of c.in-Var.is)) c.variable.result c.variable.ensures.table

pub build-returns-in-Running-clause-table : goal.build-returns-in-Running-clause-table
build-returns-in-Running-clause-table g t c = term_table c.running.new.engine.store c.args.layout.now c.args.model.now c.args.next _ _ (sym (ap term_of c.in-Running.is)) c.running.result c.running.ensures.table

pub build-returns-in-Next-clause-table : goal.build-returns-in-Next-clause-table
build-returns-in-Next-clause-table g t c =
    term_table c.build.new.engine.store c.args.layout.now c.args.model.now c.args.next (Term.Next (term_of c.deref.result.now)) (term_of c.args.expr.now)
    (sym (ap term_of c.in-Next.is ∙ ap (λ (x : Expr). Term.Next (term_of x)) (sym c.deref.ensures))) c.build.result c.build.ensures.table

pub build-returns-in_ok-operand-in-Not-clause-table : goal.build-returns-in_ok-operand-in-Not-clause-table
build-returns-in_ok-operand-in-Not-clause-table g t c =
    let lay = c.args.layout.now in
    let m = c.args.model.now in
    let e : Term = term_of c.deref-in-Not.result.now in
    let is : term_of c.args.expr.now ≡ Term.Not e = ap term_of c.in-Not.is ∙ ap (λ (x : Expr). Term.Not (term_of x)) (sym c.deref-in-Not.ensures) in
    let good : IsEvaluable m e = subst (λ (x : Term). IsEvaluable m x) is c.requires.evaluable in
    term_table c.negated.new.engine.store lay m c.args.next (Term.Not e) (term_of c.args.expr.now) (sym is) c.negated.result
    (not_table c.build-in-Not.new.engine.store c.negated.new.engine.store _ _ (meaning_of lay m c.args.next e) c.in_ok-operand-in-Not.ensures.table (λ bits. eval_proper m e _ _ good) c.negated.result c.negated.ensures.cells c.negated.ensures.reads)

pub build-returns-in_ok-right-in-Binary-clause-table : goal.build-returns-in_ok-right-in-Binary-clause-table
build-returns-in_ok-right-in-Binary-clause-table g t c =
    let lay = c.args.layout.now in
    let m = c.args.model.now in
    let a : Term = term_of c.deref-in-Binary.result.now in
    let b : Term = term_of c.deref-in-Binary-2.result.now in
    let is : term_of c.args.expr.now ≡ Term.Binary c.in-Binary.op a b = ap term_of c.in-Binary.is ∙ (λ i. Term.Binary c.in-Binary.op (term_of (sym c.deref-in-Binary.ensures i)) (term_of (sym c.deref-in-Binary-2.ensures i))) in
    let good : IsEvaluable m a × IsEvaluable m b = subst (λ (x : Term). IsEvaluable m x) is c.requires.evaluable in
    let s = c.build-in-Binary.new.engine.store in
    let z = c.build-in-Binary-2.new.engine.store in
    term_table c.binary_of.new.engine.store lay m c.args.next (Term.Binary c.in-Binary.op a b) (term_of c.args.expr.now) (sym is) c.binary_of.result
    (binary_table z c.binary_of.new.engine.store c.in-Binary.op c.in_ok-left-in-Binary.left c.in_ok-right-in-Binary.right (meaning_of lay m c.args.next a) (meaning_of lay m c.args.next b)
    (IsTable-grows s z c.build-in-Binary-2.ensures.call.keeps.engine.grows _ _ (meaning_of lay m c.args.next a) c.in_ok-left-in-Binary.ensures.table) c.in_ok-right-in-Binary.ensures.table
    (λ bits. eval_proper m a _ _ good.0) (λ bits. eval_proper m b _ _ good.1) c.binary_of.result c.binary_of.ensures.table)

pub build-returns-in-Braces-clause-table : goal.build-returns-in-Braces-clause-table
build-returns-in-Braces-clause-table g t c =
    let es : List Expr = c.in-Braces.elements.items in
    let e : Expr = c.index.result.now in
    let one : length es ≡ 1 = omega (arith, c.len.ensures, c.if-len-eq1.true, c.in-Braces.elements.ok) in
    only_table c.build-in-Braces.new.engine.store c.args.layout.now c.args.model.now c.args.next es e (term_of c.args.expr.now) (only_element es e one c.index.ensures) (sym (ap term_of c.in-Braces.is ∙ braces_term c.in-Braces.elements)) c.build-in-Braces.result c.build-in-Braces.ensures.table

pub build-returns-in_ok-cells-in-Braces-2-clause-table : goal.build-returns-in_ok-cells-in-Braces-2-clause-table
build-returns-in_ok-cells-in-Braces-2-clause-table g t c =
    braces_table c.build_elements.new.engine.store c.args.layout.now c.args.model.now c.args.next (terms_in c.deref-in-Braces-2.result.now) (term_of c.args.expr.now)
    (sym (ap term_of c.in-Braces-2.is ∙ braces_term c.in-Braces-2.elements ∙ ap (λ (x : List Expr). Term.Braces (terms_in x)) (sym c.deref-in-Braces-2.ensures.value))) _ c.in_ok-cells-in-Braces-2.ensures.table

pub build-returns-in-Case-clause-table : goal.build-returns-in-Case-clause-table
build-returns-in-Case-clause-table g t c =
    term_table c.build_arms.new.engine.store c.args.layout.now c.args.model.now c.args.next (Term.Case (arms_in c.deref-in-Case.result.now)) (term_of c.args.expr.now)
    (sym (ap term_of c.in-Case.is ∙ case_term c.in-Case.arms ∙ ap (λ (x : List Arm). Term.Case (arms_in x)) (sym c.deref-in-Case.ensures.value))) c.build_arms.result c.build_arms.ensures.table

pub build_arms-loop-arm-preserved : goal.build_arms-loop-arm-preserved
build_arms-loop-arm-preserved g t c =
    let lay = c.args.layout.now in
    let m = c.args.model.now in
    let arms = c.args.arms.now in
    let n = c.loop-arm.arm-index in
    let a : Arm = c.arm-item.result in
    let s = c.loop-arm.engine.store in
    let i = c.loop-arm.invariant in
    let f : List Bool → Checked (List Value) = meaning_of lay m c.args.next (term_of a.guard) in
    let d : List Bool → Checked (List Value) = meaning_of lay m c.args.next (term_of a.right) in
    record {
      cells = c.in_ok-left.ensures.cells;
      left = c.in_ok-left.ensures.has;
      shows = λ bits k.
          let rest : Checked (List Value) = arms_meaning lay m c.args.next (arms_in (drop (n + 1) arms)) bits in
          arm_split k (guard_of (f bits)) (d bits) rest _ (value_of s c.loop-arm.left bits) _ _ _
          (i.shows bits k
          ∙ (λ j. shows (λ r. value_of s r bits) c.loop-arm.cells.items k || (value_of s c.loop-arm.left bits && any_of (same_reading k) ((arms_at m (state_shown lay c.args.next bits) (state_shown lay true bits) arms n a c.loop-arm-test.true
          ∙ ap (λ (x : Arm). guard_of (eval m (term_of x.guard) (state_shown lay c.args.next bits) (state_shown lay true bits)) >>= λ b. cond b (eval m (term_of x.right) (state_shown lay c.args.next bits) (state_shown lay true bits)) rest) (sym c.arm-item.is)) j))))
          (c.in_ok-left.ensures.shows bits k)
          (c.in_ok-left.ensures.rest bits);
      spends = lists_spend c.args.engine.now.store s c.build_arm.new.engine.store i.keeps.engine.grows (nodes_of_arms (take n arms)) (term_nodes (term_of a.guard) + term_nodes (term_of a.right)) (nodes_of_arms (take (n + 1) arms))
          (arms_step arms n a c.loop-arm-test.true c.arm-item.is) i.spends c.build_arm.ensures.spends;
      keeps = keeps_join i.keeps c.build_arm.ensures.call.keeps;
    }

pub build-build-requires-in-Braces : goal.build-build-requires-in-Braces
build-build-requires-in-Braces g t c =
    let es : List Expr = c.in-Braces.elements.items in
    let e : Expr = c.index.result.now in
    let one : length es ≡ 1 = omega (arith, c.len.ensures, c.if-len-eq1.true, c.in-Braces.elements.ok) in
    let only = only_element es e one c.index.ensures in
    let is : term_of c.args.expr.now ≡ Term.Braces (terms_in es) = ap term_of c.in-Braces.is ∙ braces_term c.in-Braces.elements in
    let w = ap term_nodes is in
    let smaller : 2 * term_nodes (term_of e) < 2 * term_nodes (term_of c.args.expr.now) = omega (arith, w, only_nodes es e only) in
    let good : IsEvaluable c.args.model.now (term_of e) = only_evaluable c.args.model.now es e only (subst (λ (x : Term). IsEvaluable c.args.model.now x) is c.requires.evaluable) in
    search rules

pub build-build_elements-requires : goal.build-build_elements-requires
build-build_elements-requires g t c =
    let e : term_of c.args.expr.now ≡ Term.Braces (terms_in c.deref-in-Braces-2.result.now) = ap term_of c.in-Braces-2.is ∙ braces_term c.in-Braces-2.elements ∙ ap (λ (x : List Expr). Term.Braces (terms_in x)) (sym c.deref-in-Braces-2.ensures.value) in
    let w = ap term_nodes e in
    let smaller : 2 * element_nodes (terms_in c.deref-in-Braces-2.result.now) + 1 < 2 * term_nodes (term_of c.args.expr.now) = omega (arith, w) in
    let whole = subst (λ (x : Term). IsEvaluable c.args.model.now x) e c.requires.evaluable in
    let some : 0 < length c.deref-in-Braces-2.result.now = elements_some c.args.model.now _ whole in
    let good : AreEvaluable c.args.model.now (terms_in c.deref-in-Braces-2.result.now) = elements_evaluable c.args.model.now _ whole in
    search rules

pub build-build_arms-requires : goal.build-build_arms-requires
build-build_arms-requires g t c =
    let e : term_of c.args.expr.now ≡ Term.Case (arms_in c.deref-in-Case.result.now) = ap term_of c.in-Case.is ∙ case_term c.in-Case.arms ∙ ap (λ (x : List Arm). Term.Case (arms_in x)) (sym c.deref-in-Case.ensures.value) in
    let w = ap term_nodes e in
    let smaller : 2 * arm_nodes (arms_in c.deref-in-Case.result.now) + 1 < 2 * term_nodes (term_of c.args.expr.now) = omega (arith, w) in
    let good : AreEvaluableArms c.args.model.now (arms_in c.deref-in-Case.result.now) = subst (λ (x : Term). IsEvaluable c.args.model.now x) e c.requires.evaluable in
    search rules

pub build-returns-in_ok-right-in-Binary-clause-call : goal.build-returns-in_ok-right-in-Binary-clause-call
build-returns-in_ok-right-in-Binary-clause-call g t c = record { keeps = keeps_join (keeps_join c.build-in-Binary.ensures.call.keeps c.build-in-Binary-2.ensures.call.keeps) c.binary_of.ensures.call.keeps; held = search rules }

pub build_arms-loop-arm-init : goal.build_arms-loop-arm-init
build_arms-loop-arm-init g t c = record {
  cells = no_cells c.args.engine.now.store _ c.new-cells.ensures.items;
  left = omega arith;
  shows = λ bits k. no_arms c.args.engine.now.store _ bits k _ c.new-cells.ensures.items;
  spends = Spends-same c.args.engine.now.store _;
  keeps = Keeps-same c.args.engine.now c.args.steps.now;
}

pub build_arms-build_arm-requires : goal.build_arms-build_arm-requires
build_arms-build_arm-requires g t c =
    let m = c.args.model.now in
    let arms = c.args.arms.now in
    let a : Arm = c.arm-item.result in
    let w = arm_nodes_at arms c.loop-arm.arm-index a c.loop-arm-test.true in
    let u = ap (λ (x : Arm). term_nodes (term_of x.guard) + term_nodes (term_of x.right)) c.arm-item.is in
    let smaller : 2 * (term_nodes (term_of a.guard) + term_nodes (term_of a.right)) < 2 * arm_nodes (arms_in arms) + 1 = omega (arith, w, u) in
    let good = arm_evaluable_at m arms c.loop-arm.arm-index a c.loop-arm-test.true c.requires.evaluable in
    let guard : IsEvaluable m (term_of a.guard) = subst (λ (x : Arm). IsEvaluable m (term_of x.guard)) (sym c.arm-item.is) good.0 in
    let right : IsEvaluable m (term_of a.right) = subst (λ (x : Arm). IsEvaluable m (term_of x.right)) (sym c.arm-item.is) good.1 in
    search rules

pub build_arms-returns-in_err-left-clause-call : goal.build_arms-returns-in_err-left-clause-call
build_arms-returns-in_err-left-clause-call g t c =
    let p = err_from_is_err_and c.from_residual.result c.from_residual.ensures.1 in
    record { keeps = keeps_join c.loop-arm.invariant.keeps c.build_arm.ensures.call.keeps; held = rw (p.1, p.2) c.in_err-left.ensures.call.held }

pub build_arms-returns-in_err-left-clause-spends : goal.build_arms-returns-in_err-left-clause-spends
build_arms-returns-in_err-left-clause-spends g t c =
    let arms = c.args.arms.now in
    let n = c.loop-arm.arm-index in
    let a : Arm = c.arm-item.result in
    let i = c.loop-arm.invariant in
    list_spends c.args.engine.now.store c.build_arm.new.engine.store (arm_nodes (arms_in arms)) (1 + arm_nodes (arms_in arms)) refl
    (lists_spend c.args.engine.now.store c.loop-arm.engine.store c.build_arm.new.engine.store i.keeps.engine.grows (nodes_of_arms (take n arms)) (term_nodes (term_of a.guard) + term_nodes (term_of a.right)) (arm_nodes (arms_in arms))
    (arms_more_le arms n a c.loop-arm-test.true c.arm-item.is) i.spends c.build_arm.ensures.spends)

-- ---- elements

pub build_elements-returns-then-elements-eq1-clause-table : goal.build_elements-returns-then-elements-eq1-clause-table
build_elements-returns-then-elements-eq1-clause-table g t c =
    let es = c.args.elements.now in
    let e : Expr = c.index-elements-0.result in
    element_table c.build.new.engine.store c.args.layout.now c.args.model.now c.args.next es e (only_element es e c.if-elements-eq1.true c.index-elements-0.is) c.in_ok-table.table.cells.items c.in_ok-table.table.single c.in_ok-table.ensures.table

pub build_elements-returns-in_err-table-clause-spends : goal.build_elements-returns-in_err-table-clause-spends
build_elements-returns-in_err-table-clause-spends g t c =
    let es = c.args.elements.now in
    let e : Expr = c.index-elements-0.result in
    element_spends c.args.engine.now.store c.build.new.engine.store (term_nodes (term_of e)) (element_nodes (terms_in es)) (term_nodes-some (term_of e)) (only_nodes es e (only_element es e c.if-elements-eq1.true c.index-elements-0.is)) c.build.ensures.spends

pub build_elements-returns-then-elements-eq1-clause-spends : goal.build_elements-returns-then-elements-eq1-clause-spends
build_elements-returns-then-elements-eq1-clause-spends g t c =
    let es = c.args.elements.now in
    let e : Expr = c.index-elements-0.result in
    element_spends c.args.engine.now.store c.build.new.engine.store (term_nodes (term_of e)) (element_nodes (terms_in es)) (term_nodes-some (term_of e)) (only_nodes es e (only_element es e c.if-elements-eq1.true c.index-elements-0.is)) c.build.ensures.spends

pub build_elements-build_elements-requires : goal.build_elements-build_elements-requires
build_elements-build_elements-requires g t c =
    let es = c.args.elements.now in
    let xs = c.split_at.result.0.now in
    let ys = c.split_at.result.1.now in
    let some : 0 < length xs = omega (arith, c.split_at.ensures.front_len, c.requires.some) in
    let behind : 0 < length ys = omega (arith, c.split_at.ensures.back_len, c.requires.some) in
    let n = halves_nodes es xs ys (length es / 2) c.split_at.ensures.front c.split_at.ensures.back in
    let smaller : 2 * element_nodes (terms_in xs) + 1 < 2 * element_nodes (terms_in es) + 1 = omega (arith, n, nodes-some ys behind) in
    let good = halves_evaluable es xs ys (length es / 2) c.split_at.ensures.front c.split_at.ensures.back c.args.model.now c.requires.evaluable in
    let first : AreEvaluable c.args.model.now (terms_in xs) = good.0 in
    search rules

pub build_elements-build_elements-requires-2 : goal.build_elements-build_elements-requires-2
build_elements-build_elements-requires-2 g t c =
    let es = c.args.elements.now in
    let xs = c.split_at.result.0.now in
    let ys = c.split_at.result.1.now in
    let first : 0 < length xs = omega (arith, c.split_at.ensures.front_len, c.requires.some) in
    let some : 0 < length ys = omega (arith, c.split_at.ensures.back_len, c.requires.some) in
    let n = halves_nodes es xs ys (length es / 2) c.split_at.ensures.front c.split_at.ensures.back in
    let smaller : 2 * element_nodes (terms_in ys) + 1 < 2 * element_nodes (terms_in es) + 1 = omega (arith, n, nodes-some xs first) in
    let good = halves_evaluable es xs ys (length es / 2) c.split_at.ensures.front c.split_at.ensures.back c.args.model.now c.requires.evaluable in
    let behind : AreEvaluable c.args.model.now (terms_in ys) = good.1 in
    search rules

pub build_elements-united-requires-clause-left : goal.build_elements-united-requires-clause-left
build_elements-united-requires-clause-left g t c =
    let q = c.build_elements-2.new.engine.store in
    subst (AreCells q) (sym c.deref.ensures.value) (AreCells-grows c.build_elements.new.engine.store q c.build_elements-2.ensures.call.keeps.engine.grows _ c.in_ok-left.ensures.table.regions)

pub build_elements-united-requires-clause-right : goal.build_elements-united-requires-clause-right
build_elements-united-requires-clause-right g t c = subst (AreCells c.build_elements-2.new.engine.store) (sym c.deref-2.ensures.value) c.in_ok-right.ensures.table.regions

pub build_elements-returns-clause-table : goal.build_elements-returns-clause-table
build_elements-returns-clause-table g t c =
    let lay = c.args.layout.now in
    let m = c.args.model.now in
    let es = c.args.elements.now in
    let xs = c.split_at.result.0.now in
    let ys = c.split_at.result.1.now in
    let p = c.build_elements.new.engine.store in
    let q = c.build_elements-2.new.engine.store in
    let f : List Bool → Checked (List Value) = elements_meaning lay m c.args.next (terms_in xs) in
    let h : List Bool → Checked (List Value) = elements_meaning lay m c.args.next (terms_in ys) in
    united_table q c.united.new.engine.store c.deref.result.now c.deref-2.result.now f h (elements_meaning lay m c.args.next (terms_in es))
    (subst (λ cells. IsSetTable q cells f) (sym c.deref.ensures.value) (IsSetTable-grows p q c.build_elements-2.ensures.call.keeps.engine.grows c.in_ok-left.left.items f c.in_ok-left.ensures.table))
    (subst (λ cells. IsSetTable q cells h) (sym c.deref-2.ensures.value) c.in_ok-right.ensures.table)
    (halves_values es xs ys (length es / 2) c.split_at.ensures.front c.split_at.ensures.back lay m c.args.next)
    c.united.result c.united.ensures.cells c.united.ensures.reads

pub build_elements-returns-in_err-right-clause-call : goal.build_elements-returns-in_err-right-clause-call
build_elements-returns-in_err-right-clause-call g t c = record { keeps = keeps_join c.build_elements.ensures.call.keeps c.build_elements-2.ensures.call.keeps; held = search rules }

pub build_elements-returns-clause-call : goal.build_elements-returns-clause-call
build_elements-returns-clause-call g t c = record { keeps = keeps_join (keeps_join c.build_elements.ensures.call.keeps c.build_elements-2.ensures.call.keeps) c.united.ensures.call.keeps; held = search rules }

pub build_elements-returns-in_err-left-clause-spends : goal.build_elements-returns-in_err-left-clause-spends
build_elements-returns-in_err-left-clause-spends g t c =
    let es = c.args.elements.now in
    let xs = c.split_at.result.0.now in
    let ys = c.split_at.result.1.now in
    let n = halves_nodes es xs ys (length es / 2) c.split_at.ensures.front c.split_at.ensures.back in
    half_spends c.args.engine.now.store c.build_elements.new.engine.store (element_nodes (terms_in xs)) (element_nodes (terms_in es)) (omega (arith, n)) c.build_elements.ensures.spends

pub build_elements-returns-in_err-right-clause-spends : goal.build_elements-returns-in_err-right-clause-spends
build_elements-returns-in_err-right-clause-spends g t c =
    let es = c.args.elements.now in
    let xs = c.split_at.result.0.now in
    let ys = c.split_at.result.1.now in
    let n = halves_nodes es xs ys (length es / 2) c.split_at.ensures.front c.split_at.ensures.back in
    lists_spend c.args.engine.now.store c.build_elements.new.engine.store c.build_elements-2.new.engine.store c.build_elements.ensures.call.keeps.engine.grows (element_nodes (terms_in xs)) (element_nodes (terms_in ys)) (element_nodes (terms_in es))
    (omega (arith, n)) c.build_elements.ensures.spends c.build_elements-2.ensures.spends

pub build_elements-returns-clause-spends : goal.build_elements-returns-clause-spends
build_elements-returns-clause-spends g t c =
    let lay = c.args.layout.now in
    let m = c.args.model.now in
    let es = c.args.elements.now in
    let xs = c.split_at.result.0.now in
    let ys = c.split_at.result.1.now in
    let p = c.build_elements.new.engine.store in
    let q = c.build_elements-2.new.engine.store in
    let some : 0 < length xs = omega (arith, c.split_at.ensures.front_len, c.requires.some) in
    let behind : 0 < length ys = omega (arith, c.split_at.ensures.back_len, c.requires.some) in
    halves_spend c.args.engine.now.store p q c.united.new.engine.store c.build_elements.ensures.call.keeps.engine.grows c.build_elements-2.ensures.call.keeps.engine.grows (element_nodes (terms_in xs)) (element_nodes (terms_in ys)) (element_nodes (terms_in es))
    (length c.deref.result.now) (length c.deref-2.result.now) (nodes-some xs some) (nodes-some ys behind) (halves_nodes es xs ys (length es / 2) c.split_at.ensures.front c.split_at.ensures.back)
    c.build_elements.ensures.spends c.build_elements-2.ensures.spends c.united.ensures.spends
    (subst (λ (cells : List Cell). length cells ≤ element_nodes (terms_in xs) * 2 ^ levels_of p) (sym c.deref.ensures.value) (set-few p c.in_ok-left.left.items (elements_meaning lay m c.args.next (terms_in xs)) (element_nodes (terms_in xs)) c.in_ok-left.ensures.table
    (λ bits. elements_amount m (terms_in xs) (state_shown lay c.args.next bits) (state_shown lay true bits))))
    (subst (λ (cells : List Cell). length cells ≤ element_nodes (terms_in ys) * 2 ^ levels_of q) (sym c.deref-2.ensures.value) (set-few q c.in_ok-right.right.items (elements_meaning lay m c.args.next (terms_in ys)) (element_nodes (terms_in ys)) c.in_ok-right.ensures.table
    (λ bits. elements_amount m (terms_in ys) (state_shown lay c.args.next bits) (state_shown lay true bits))))

-- ---- one arm

pub build_arm-build-requires : goal.build_arm-build-requires
build_arm-build-requires g t c =
    let a : Arm = c.args.arm.now in
    let smaller : 2 * term_nodes (term_of a.guard) < 2 * (term_nodes (term_of a.guard) + term_nodes (term_of a.right)) = omega (arith, term_nodes-some (term_of a.right)) in
    search rules

pub build_arm-build-requires-2 : goal.build_arm-build-requires-2
build_arm-build-requires-2 g t c =
    let a : Arm = c.args.arm.now in
    let smaller : 2 * term_nodes (term_of a.right) < 2 * (term_nodes (term_of a.guard) + term_nodes (term_of a.right)) = omega (arith, term_nodes-some (term_of a.guard)) in
    search rules

pub build_arm-add_arm-requires-clause-guard : goal.build_arm-add_arm-requires-clause-guard
build_arm-add_arm-requires-clause-guard g t c = AreCells-grows c.build.new.engine.store c.build-2.new.engine.store c.build-2.ensures.call.keeps.engine.grows _ c.in_ok-guard.ensures.table.regions

pub build_arm-add_arm-requires-clause-right : goal.build_arm-add_arm-requires-clause-right
build_arm-add_arm-requires-clause-right g t c = subst (AreCells c.build-2.new.engine.store) (sym c.deref.ensures.value) c.in_ok-right.ensures.table.regions

pub build_arm-add_arm-requires-clause-left : goal.build_arm-add_arm-requires-clause-left
build_arm-add_arm-requires-clause-left g t c =
    let k = keeps_join c.build.ensures.call.keeps c.build-2.ensures.call.keeps in
    k.engine.grows.has c.args.left c.requires.left

pub build_arm-add_arm-requires-clause-out : goal.build_arm-add_arm-requires-clause-out
build_arm-add_arm-requires-clause-out g t c =
    let k = keeps_join c.build.ensures.call.keeps c.build-2.ensures.call.keeps in
    AreCells-grows c.args.engine.now.store c.build-2.new.engine.store k.engine.grows c.args.out.now.items c.requires.out

pub build_arm-returns-clause-shows : goal.build_arm-returns-clause-shows
build_arm-returns-clause-shows g t c =
    let lay = c.args.layout.now in
    let m = c.args.model.now in
    let a : Arm = c.args.arm.now in
    let s = c.args.engine.now.store in
    let p = c.build.new.engine.store in
    let q = c.build-2.new.engine.store in
    let s_q = Grows-then s p q c.build.ensures.call.keeps.engine.grows c.build-2.ensures.call.keeps.engine.grows in
    let f : List Bool → Checked (List Value) = meaning_of lay m c.args.next (term_of a.guard) in
    let d : List Bool → Checked (List Value) = meaning_of lay m c.args.next (term_of a.right) in
    let table = IsTable-grows p q c.build-2.ensures.call.keeps.engine.grows _ _ f c.in_ok-guard.ensures.table in
    on_ok_weaker c.add_arm.result (λ shown bits k.
    shown bits (f bits) (d bits) (operand q _ _ f table (λ xs. eval_proper m (term_of a.guard) _ _ c.requires.guard) bits)
    (subst (λ xs. Reads (λ r. value_of q r bits) xs (d bits)) (sym c.deref.ensures.value) (c.in_ok-right.ensures.table.reads bits)) k
    ∙ (λ j. any_cell-grows s q s_q c.args.out.now.items c.requires.out.has bits (same_reading k) j || (s_q.value c.args.left c.requires.left bits j && arm_shows (guard_of (f bits)) (d bits) k)))
    c.add_arm.ensures.shows

pub build_arm-returns-clause-rest : goal.build_arm-returns-clause-rest
build_arm-returns-clause-rest g t c =
    let lay = c.args.layout.now in
    let m = c.args.model.now in
    let a : Arm = c.args.arm.now in
    let s = c.args.engine.now.store in
    let p = c.build.new.engine.store in
    let q = c.build-2.new.engine.store in
    let s_q = Grows-then s p q c.build.ensures.call.keeps.engine.grows c.build-2.ensures.call.keeps.engine.grows in
    let f : List Bool → Checked (List Value) = meaning_of lay m c.args.next (term_of a.guard) in
    let table = IsTable-grows p q c.build-2.ensures.call.keeps.engine.grows _ _ f c.in_ok-guard.ensures.table in
    if_ok c.add_arm.result c.add_arm.ensures.rest (λ r h bits.
    h bits (f bits) (operand q _ _ f table (λ xs. eval_proper m (term_of a.guard) _ _ c.requires.guard) bits)
    ∙ (λ j. s_q.value c.args.left c.requires.left bits j && goes_on (guard_of (f bits))))

pub build_arm-returns-in_err-right-clause-call : goal.build_arm-returns-in_err-right-clause-call
build_arm-returns-in_err-right-clause-call g t c = record { keeps = keeps_join c.build.ensures.call.keeps c.build-2.ensures.call.keeps; held = search rules }

pub build_arm-returns-clause-call : goal.build_arm-returns-clause-call
build_arm-returns-clause-call g t c = record { keeps = keeps_join (keeps_join c.build.ensures.call.keeps c.build-2.ensures.call.keeps) c.add_arm.ensures.call.keeps; held = search rules }

pub build_arm-returns-in_err-guard-clause-spends : goal.build_arm-returns-in_err-guard-clause-spends
build_arm-returns-in_err-guard-clause-spends g t c =
    let a : Arm = c.args.arm.now in
    let p = c.build.new.engine.store in
    arm_guard c.args.engine.now.store p p c.build.ensures.call.keeps.engine.grows (Grows-same p) (term_nodes (term_of a.guard)) (term_nodes (term_of a.right)) (term_nodes-some (term_of a.guard)) (term_nodes-some (term_of a.right)) c.build.ensures.spends

pub build_arm-returns-in_err-right-clause-spends : goal.build_arm-returns-in_err-right-clause-spends
build_arm-returns-in_err-right-clause-spends g t c =
    let a : Arm = c.args.arm.now in
    arm_right c.args.engine.now.store c.build.new.engine.store c.build-2.new.engine.store c.build.ensures.call.keeps.engine.grows c.build-2.ensures.call.keeps.engine.grows (term_nodes (term_of a.guard)) (term_nodes (term_of a.right))
    (term_nodes-some (term_of a.guard)) (term_nodes-some (term_of a.right)) c.build.ensures.spends c.build-2.ensures.spends

pub build_arm-returns-clause-spends : goal.build_arm-returns-clause-spends
build_arm-returns-clause-spends g t c =
    let lay = c.args.layout.now in
    let m = c.args.model.now in
    let a : Arm = c.args.arm.now in
    let p = c.build.new.engine.store in
    let q = c.build-2.new.engine.store in
    let f : List Bool → Checked (List Value) = meaning_of lay m c.args.next (term_of a.guard) in
    let d : List Bool → Checked (List Value) = meaning_of lay m c.args.next (term_of a.right) in
    arm_spends c.args.engine.now.store p q c.build.ensures.call.keeps.engine.grows c.build-2.ensures.call.keeps.engine.grows (term_nodes (term_of a.guard)) (term_nodes (term_of a.right))
    (term_nodes-some (term_of a.guard)) (term_nodes-some (term_of a.right)) c.build.ensures.spends c.build-2.ensures.spends
    c.add_arm.new.engine.store (length c.in_ok-guard.guard.cells.items) (length c.deref.result.now)
    (table-few p c.in_ok-guard.guard.cells.items _ f (term_nodes (term_of a.guard)) c.in_ok-guard.ensures.table (λ bits. eval_amount m (term_of a.guard) (state_shown lay c.args.next bits) (state_shown lay true bits)))
    (subst (λ (xs : List Cell). length xs ≤ term_nodes (term_of a.right) * 2 ^ levels_of q) (sym c.deref.ensures.value) (table-few q c.in_ok-right.right.cells.items _ d (term_nodes (term_of a.right)) c.in_ok-right.ensures.table (λ bits. eval_amount m (term_of a.right) (state_shown lay c.args.next bits) (state_shown lay true bits))))
    c.add_arm.ensures.spends

pub build_arms-returns-clause-table : goal.build_arms-returns-clause-table
build_arms-returns-clause-table g t c =
    let lay = c.args.layout.now in
    let m = c.args.model.now in
    record {
      regions = c.in_ok-add.ensures.cells;
      reads = λ bits. record {
        each = λ k. last_arm k c.truth.result c.truth.ensures _ _ _ _ _
            (arms_past m (state_shown lay c.args.next bits) (state_shown lay true bits) c.args.arms.now c.loop-arm.arm-index c.loop-arm-test.false)
            (c.loop-arm.invariant.shows bits k) (c.in_ok-add.ensures.shows bits k);
      };
      at_most_one = λ e bits. absurd (false≢true e);
    }

-- ---- growth

pub build-returns-in-Const-clause-spends : goal.build-returns-in-Const-clause-spends
build-returns-in-Const-clause-spends g t c = Spends-same c.args.engine.now.store _

pub build-returns-in-Var-clause-spends : goal.build-returns-in-Var-clause-spends
build-returns-in-Var-clause-spends g t c = variable_spends c.args.engine.now.store c.variable.new.engine.store (term_nodes (term_of c.args.expr.now)) c.variable.ensures.spends

pub build-returns-in-Running-clause-spends : goal.build-returns-in-Running-clause-spends
build-returns-in-Running-clause-spends g t c = running_spends c.args.engine.now.store c.running.new.engine.store (term_nodes (term_of c.args.expr.now)) c.running.ensures.spends

pub build-returns-in-Next-clause-spends : goal.build-returns-in-Next-clause-spends
build-returns-in-Next-clause-spends g t c =
    next_spends c.args.engine.now.store c.build.new.engine.store (term_nodes (term_of c.deref.result.now)) (term_nodes (term_of c.args.expr.now))
    (ap term_nodes (ap term_of c.in-Next.is ∙ ap (λ (x : Expr). Term.Next (term_of x)) (sym c.deref.ensures))) c.build.ensures.spends

pub build-returns-in_ok-operand-in-Not-clause-spends : goal.build-returns-in_ok-operand-in-Not-clause-spends
build-returns-in_ok-operand-in-Not-clause-spends g t c =
    let lay = c.args.layout.now in
    let m = c.args.model.now in
    let e : Term = term_of c.deref-in-Not.result.now in
    let is : term_of c.args.expr.now ≡ Term.Not e = ap term_of c.in-Not.is ∙ ap (λ (x : Expr). Term.Not (term_of x)) (sym c.deref-in-Not.ensures) in
    let s = c.args.engine.now.store in
    let b = c.build-in-Not.new.engine.store in
    not_spends s b c.negated.new.engine.store c.build-in-Not.ensures.call.keeps.engine.grows (term_nodes e) (term_nodes (term_of c.args.expr.now)) (length c.in_ok-operand-in-Not.operand.cells.items) (ap term_nodes is)
    c.build-in-Not.ensures.spends c.negated.ensures.spends
    (table-few b c.in_ok-operand-in-Not.operand.cells.items _ (meaning_of lay m c.args.next e) (term_nodes e) c.in_ok-operand-in-Not.ensures.table (λ bits. eval_amount m e (state_shown lay c.args.next bits) (state_shown lay true bits)))

pub build-returns-in_ok-right-in-Binary-clause-spends : goal.build-returns-in_ok-right-in-Binary-clause-spends
build-returns-in_ok-right-in-Binary-clause-spends g t c =
    let lay = c.args.layout.now in
    let m = c.args.model.now in
    let a : Term = term_of c.deref-in-Binary.result.now in
    let b : Term = term_of c.deref-in-Binary-2.result.now in
    let is : term_of c.args.expr.now ≡ Term.Binary c.in-Binary.op a b = ap term_of c.in-Binary.is ∙ (λ i. Term.Binary c.in-Binary.op (term_of (sym c.deref-in-Binary.ensures i)) (term_of (sym c.deref-in-Binary-2.ensures i))) in
    let good : IsEvaluable m a × IsEvaluable m b = subst (λ (x : Term). IsEvaluable m x) is c.requires.evaluable in
    let s = c.build-in-Binary.new.engine.store in
    let z = c.build-in-Binary-2.new.engine.store in
    let f : List Bool → Checked (List Value) = meaning_of lay m c.args.next a in
    let h : List Bool → Checked (List Value) = meaning_of lay m c.args.next b in
    let left = c.in_ok-left-in-Binary.left in
    let right = c.in_ok-right-in-Binary.right in
    let there = IsTable-grows s z c.build-in-Binary-2.ensures.call.keeps.engine.grows left.cells.items left.single f c.in_ok-left-in-Binary.ensures.table in
    binary_spends c.args.engine.now.store s z c.binary_of.new.engine.store c.build-in-Binary.ensures.call.keeps.engine.grows c.build-in-Binary-2.ensures.call.keeps.engine.grows (term_nodes a) (term_nodes b) (term_nodes (term_of c.args.expr.now))
    (length left.cells.items) (length right.cells.items) (ap term_nodes is) c.build-in-Binary.ensures.spends c.build-in-Binary-2.ensures.spends
    (c.binary_of.ensures.spends
    (record { result = λ bits. (f bits, operand z left.cells.items left.single f there (λ xs. eval_proper m a _ _ good.0) bits) })
    (record { result = λ bits. (h bits, operand z right.cells.items right.single h c.in_ok-right-in-Binary.ensures.table (λ xs. eval_proper m b _ _ good.1) bits) }))
    (table-few s left.cells.items left.single f (term_nodes a) c.in_ok-left-in-Binary.ensures.table (λ bits. eval_amount m a (state_shown lay c.args.next bits) (state_shown lay true bits)))
    (table-few z right.cells.items right.single h (term_nodes b) c.in_ok-right-in-Binary.ensures.table (λ bits. eval_amount m b (state_shown lay c.args.next bits) (state_shown lay true bits)))

pub build-returns-in-Braces-clause-spends : goal.build-returns-in-Braces-clause-spends
build-returns-in-Braces-clause-spends g t c =
    let es : List Expr = c.in-Braces.elements.items in
    let e : Expr = c.index.result.now in
    let one : length es ≡ 1 = omega (arith, c.len.ensures, c.if-len-eq1.true, c.in-Braces.elements.ok) in
    let w = ap term_nodes (ap term_of c.in-Braces.is ∙ braces_term c.in-Braces.elements) in
    next_spends c.args.engine.now.store c.build-in-Braces.new.engine.store (term_nodes (term_of e)) (term_nodes (term_of c.args.expr.now))
    (omega (arith, w, only_nodes es e (only_element es e one c.index.ensures))) c.build-in-Braces.ensures.spends

pub build-returns-in_ok-cells-in-Braces-2-clause-spends : goal.build-returns-in_ok-cells-in-Braces-2-clause-spends
build-returns-in_ok-cells-in-Braces-2-clause-spends g t c =
    list_spends c.args.engine.now.store c.build_elements.new.engine.store (element_nodes (terms_in c.deref-in-Braces-2.result.now)) (term_nodes (term_of c.args.expr.now))
    (ap term_nodes (ap term_of c.in-Braces-2.is ∙ braces_term c.in-Braces-2.elements ∙ ap (λ (x : List Expr). Term.Braces (terms_in x)) (sym c.deref-in-Braces-2.ensures.value))) c.build_elements.ensures.spends

pub build-returns-in-Case-clause-spends : goal.build-returns-in-Case-clause-spends
build-returns-in-Case-clause-spends g t c =
    subst (λ n. Spends (allowance n (2 ^ levels_of c.args.engine.now.store)) c.args.engine.now.store c.build_arms.new.engine.store)
    (sym (ap term_nodes (ap term_of c.in-Case.is ∙ case_term c.in-Case.arms ∙ ap (λ (x : List Arm). Term.Case (arms_in x)) (sym c.deref-in-Case.ensures.value)))) c.build_arms.ensures.spends

pub build_arms-returns-clause-spends : goal.build_arms-returns-clause-spends
build_arms-returns-clause-spends g t c =
    arms_spend c.args.engine.now.store c.loop-arm.engine.store c.add.new.engine.store c.loop-arm.invariant.keeps.engine.grows (nodes_of_arms (take c.loop-arm.arm-index c.args.arms.now)) (arm_nodes (arms_in c.args.arms.now))
    (sym (arms_all c.args.arms.now c.loop-arm.arm-index c.loop-arm-test.false)) c.loop-arm.invariant.spends c.add.ensures.spends

-- ---- growth where the store is full, or memory ran out

pub build-returns-in_err-operand-in-Not-clause-spends : goal.build-returns-in_err-operand-in-Not-clause-spends
build-returns-in_err-operand-in-Not-clause-spends g t c =
    let e : Term = term_of c.deref-in-Not.result.now in
    let is : term_of c.args.expr.now ≡ Term.Not e = ap term_of c.in-Not.is ∙ ap (λ (x : Expr). Term.Not (term_of x)) (sym c.deref-in-Not.ensures) in
    next_spends c.args.engine.now.store c.build-in-Not.new.engine.store (term_nodes e) (term_nodes (term_of c.args.expr.now)) (ap term_nodes is) c.build-in-Not.ensures.spends

pub build-returns-in_err-left-in-Binary-clause-spends : goal.build-returns-in_err-left-in-Binary-clause-spends
build-returns-in_err-left-in-Binary-clause-spends g t c =
    let a : Term = term_of c.deref-in-Binary.result.now in
    let is : term_of c.args.expr.now ≡ Term.Binary c.in-Binary.op a (term_of c.in-Binary.b.value) = ap term_of c.in-Binary.is ∙ ap (λ (x : Expr). Term.Binary c.in-Binary.op (term_of x) (term_of c.in-Binary.b.value)) (sym c.deref-in-Binary.ensures) in
    left_spends c.args.engine.now.store c.build-in-Binary.new.engine.store (term_nodes a) (term_nodes (term_of c.in-Binary.b.value)) (term_nodes (term_of c.args.expr.now)) (ap term_nodes is) c.build-in-Binary.ensures.spends

pub build-returns-in_err-right-in-Binary-clause-spends : goal.build-returns-in_err-right-in-Binary-clause-spends
build-returns-in_err-right-in-Binary-clause-spends g t c =
    let a : Term = term_of c.deref-in-Binary.result.now in
    let b : Term = term_of c.deref-in-Binary-2.result.now in
    let is : term_of c.args.expr.now ≡ Term.Binary c.in-Binary.op a b = ap term_of c.in-Binary.is ∙ (λ i. Term.Binary c.in-Binary.op (term_of (sym c.deref-in-Binary.ensures i)) (term_of (sym c.deref-in-Binary-2.ensures i))) in
    both_spend c.args.engine.now.store c.build-in-Binary.new.engine.store c.build-in-Binary-2.new.engine.store c.build-in-Binary.ensures.call.keeps.engine.grows (term_nodes a) (term_nodes b) (term_nodes (term_of c.args.expr.now)) (ap term_nodes is)
    c.build-in-Binary.ensures.spends c.build-in-Binary-2.ensures.spends

pub build-returns-in_err-cells-in-Braces-2-clause-spends : goal.build-returns-in_err-cells-in-Braces-2-clause-spends
build-returns-in_err-cells-in-Braces-2-clause-spends g t c =
    list_spends c.args.engine.now.store c.build_elements.new.engine.store (element_nodes (terms_in c.deref-in-Braces-2.result.now)) (term_nodes (term_of c.args.expr.now))
    (ap term_nodes (ap term_of c.in-Braces-2.is ∙ braces_term c.in-Braces-2.elements ∙ ap (λ (x : List Expr). Term.Braces (terms_in x)) (sym c.deref-in-Braces-2.ensures.value))) c.build_elements.ensures.spends

pub build_arms-returns-in_err-add-clause-spends : goal.build_arms-returns-in_err-add-clause-spends
build_arms-returns-in_err-add-clause-spends g t c =
    arms_spend c.args.engine.now.store c.loop-arm.engine.store c.add.new.engine.store c.loop-arm.invariant.keeps.engine.grows (nodes_of_arms (take c.loop-arm.arm-index c.args.arms.now)) (arm_nodes (arms_in c.args.arms.now))
    (sym (arms_all c.args.arms.now c.loop-arm.arm-index c.loop-arm-test.false)) c.loop-arm.invariant.spends c.add.ensures.spends

pub build-returns-in_err-right-in-Binary-clause-call : goal.build-returns-in_err-right-in-Binary-clause-call
build-returns-in_err-right-in-Binary-clause-call g t c = record { keeps = keeps_join c.build-in-Binary.ensures.call.keeps c.build-in-Binary-2.ensures.call.keeps; held = search rules }

pub build-returns-in_ok-operand-in-Not-clause-call : goal.build-returns-in_ok-operand-in-Not-clause-call
build-returns-in_ok-operand-in-Not-clause-call g t c = record { keeps = keeps_join c.build-in-Not.ensures.call.keeps c.negated.ensures.call.keeps; held = search rules }

pub build_arms-returns-in_err-add-clause-call : goal.build_arms-returns-in_err-add-clause-call
build_arms-returns-in_err-add-clause-call g t c = record { keeps = keeps_join c.loop-arm.invariant.keeps c.add.ensures.call.keeps; held = search rules }

pub build_arms-returns-clause-call : goal.build_arms-returns-clause-call
build_arms-returns-clause-call g t c = record { keeps = keeps_join c.loop-arm.invariant.keeps c.add.ensures.call.keeps; held = search rules }
