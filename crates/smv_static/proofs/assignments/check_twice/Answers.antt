use Rattle.std.proofs.Common.{◌≡◌, ℕ, ◌<◌, inl, inr, ⊎_elim, List, get_or, set, length, take, true, false, sym, ◌∙◌, ap, subst, arith, below_more, Any, []}
use Rattle.std.specs.Prelude.{All, Bool, cond}
use Rattle.std.proofs.lemmas.List.{get_or_default, length-set}
use Rattle.kripke_model.specs.declared.refusals.StaticRefusal.{StaticRefusal}
use Rattle.kripke_model.specs.System.{System, Assignment}
use Rattle.kripke_model.specs.Refusing.{refuse, RefusalRule, Silent, First}
use Rattle.kripke_model.specs.Static.{AssignsAgain}
use Rattle.kripke_model.proofs.FirstLemmas.{silent_refuse, silent_with_before, first_with_before}
use Rattle.smv_static.specs.Sides.{cell_of}
use Rattle.smv_static.proofs.NumberLemmas.{flag_more, flag_at}
use Rattle.smv_static.proofs.FlatLemmas.{vars_known, processes_known}
use Rattle.smv_static.proofs.SideLemmas.{marked_again, again_marked}
use Rattle.smv_static.proofs.assignments.check_twice.Goals as goal

differ : false ≡ true → ⊥
differ e = subst (λ (b : Bool). cond b ⊥ (Unit {0})) e tt

-- the rule of one assignment
abbrev rule : List Assignment → Assignment → RefusalRule StaticRefusal
rule before a = refuse (StaticRefusal.AssignedTwice a.line) (Any (AssignsAgain a) before)

abbrev twice_in : List Assignment → RefusalRule StaticRefusal
twice_in xs = First rule [] xs

pub returns-then-index-clause-err : goal.returns-then-index-clause-err
returns-then-index-clause-err c =
    let m : System = c.args.flat.now in
    let P : ℕ = c.process_count-processes.result in
    let n : ℕ = c.variable_count-variables.result in
    let xs : List Assignment = c.assigns_of-assigns.result.now in
    let i : ℕ = c.loop-assign.assign-index in
    let item : Assignment = c.assign-item.result in
    let cell : ℕ = c.cell_of-cell.result in
    let vars = subst (λ (ys : List Assignment). All (λ a. a.var < n) ys) (sym c.assigns_of-assigns.ensures) (subst (λ (k : ℕ). All (λ a. a.var < k) m.assigns) (sym c.variable_count-variables.ensures) (vars_known m c.requires)) in
    let processes = subst (λ (ys : List Assignment). All (λ a. a.process < P) ys) (sym c.assigns_of-assigns.ensures) (subst (λ (k : ℕ). All (λ a. a.process < k) m.assigns) (sym c.process_count-processes.ensures) (processes_known m c.requires)) in
    let given : List Bool = c.loop-assign.given.items in
    let flag : get_or given cell false ≡ true = flag_at given cell c.index.result.now (omega (arith, c.loop-assign.invariant.count, c.cell_of-cell.ensures.bound)) c.index.ensures ∙ c.if-index.true in
    let seen = c.loop-assign.invariant.sound cell flag in
    let again = marked_again P n xs vars processes i item c.loop-assign-test.true seen.0 seen.1 (λ e. ap (cell_of P n) (sym c.assign-item.is) ∙ sym c.cell_of-cell.ensures.cell ∙ seen.2 e) in
    inr (subst (λ (ys : List Assignment). twice_in ys (StaticRefusal.AssignedTwice c.line_of_assign.result)) c.assigns_of-assigns.ensures
    (first_with_before rule xs i item _ c.loop-assign-test.true (λ j d under. silent_refuse (c.loop-assign.invariant.none j under d))
    (ap StaticRefusal.AssignedTwice (c.line_of_assign.ensures ∙ ap (λ (a : Assignment). a.line) c.assign-item.is), again)))

pub loop-assign-preserved : goal.loop-assign-preserved
loop-assign-preserved c =
    let m : System = c.args.flat.now in
    let P : ℕ = c.process_count-processes.result in
    let n : ℕ = c.variable_count-variables.result in
    let xs : List Assignment = c.assigns_of-assigns.result.now in
    let i : ℕ = c.loop-assign.assign-index in
    let inv = c.loop-assign.invariant in
    let item : Assignment = c.assign-item.result in
    let cell : ℕ = c.cell_of-cell.result in
    let before : List Bool = c.loop-assign.given.items in
    let after : List Bool = set before cell true in
    let below : cell < length before = omega (arith, inv.count, c.cell_of-cell.ensures.bound) in
    let more = λ (z : ℕ). flag_more before cell z below in
    let clear : get_or before cell false ≡ false = flag_at before cell c.index.result.now below c.index.ensures ∙ c.if-index.false in
    let vars = subst (λ (ys : List Assignment). All (λ a. a.var < n) ys) (sym c.assigns_of-assigns.ensures) (subst (λ (k : ℕ). All (λ a. a.var < k) m.assigns) (sym c.variable_count-variables.ensures) (vars_known m c.requires)) in
    let processes = subst (λ (ys : List Assignment). All (λ a. a.process < P) ys) (sym c.assigns_of-assigns.ensures) (subst (λ (k : ℕ). All (λ a. a.process < k) m.assigns) (sym c.process_count-processes.ensures) (processes_known m c.requires)) in
    let at = λ (d : Assignment). get_or_default xs i d item c.loop-assign-test.true ∙ sym c.assign-item.is in
    let here = λ (d : Assignment). c.cell_of-cell.ensures.cell ∙ ap (cell_of P n) (sym (at d)) in
    record {
      count = length-set before cell true ∙ inv.count;
      sound = λ z h. ⊎_elim (λ old. let o = inv.sound z old in (o.0, omega (arith, o.1), o.2)) (λ e. (i, omega arith, λ d. e ∙ here d)) ((more z).0 h);
      complete = below_more (λ (k : ℕ). (d : Assignment) → get_or after (cell_of P n (get_or xs k d)) false ≡ true) i
          (λ k l d. (more (cell_of P n (get_or xs k d))).1 (inl (inv.complete k l d))) (λ d. (more (cell_of P n (get_or xs i d))).1 (inr (sym (here d))));
      none = below_more (λ (k : ℕ). (d : Assignment) → Any (AssignsAgain (get_or xs k d)) (take k xs) → ⊥) i inv.none
          (λ d h. differ (sym clear ∙ subst (λ (z : ℕ). get_or before z false ≡ true) (sym (here d)) (again_marked P n xs vars processes i d c.loop-assign-test.true (λ z. get_or before z false ≡ true) inv.complete h)));
    }

pub returns-clause-ok : goal.returns-clause-ok
returns-clause-ok c =
    subst (λ (ys : List Assignment). Silent (twice_in ys)) c.assigns_of-assigns.ensures
    (silent_with_before rule c.assigns_of-assigns.result.now (λ k d below. silent_refuse (c.loop-assign.invariant.none k (omega arith) d)))
