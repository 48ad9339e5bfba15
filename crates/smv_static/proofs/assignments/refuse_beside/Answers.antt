use Rattle.std.proofs.Common.{◌≡◌, ℕ, arith, List, sym, ◌∙◌, ap, subst, get_or, true, false, below_more}
use Rattle.std.specs.Prelude.{Bool, cond}
use Rattle.std.proofs.lemmas.List.{get_or_default}
use Rattle.kripke_model.specs.declared.models.Part.{Part}
use Rattle.kripke_model.specs.declared.refusals.StaticRefusal.{StaticRefusal}
use Rattle.kripke_model.specs.System.{System, Assignment}
use Rattle.kripke_model.specs.Refusing.{refuse, RefusalRule, Silent, first_of}
use Rattle.kripke_model.specs.Static.{IsBesideOther}
use Rattle.kripke_model.proofs.FirstLemmas.{silent_refuse, silent_list, first_in_list}
use Rattle.smv_static.specs.Sides.{HasOther, IsFlagged}
use Rattle.smv_static.proofs.assignments.refuse_beside.Goals as goal

differ : false ≡ true → ⊥
differ e = subst (λ (b : Bool). cond b ⊥ (Unit {0})) e tt

-- the rule of one assignment
abbrev rule : System → Assignment → RefusalRule StaticRefusal
rule m a = refuse (StaticRefusal.CurrentBesideOther a.line) (IsBesideOther m a)

abbrev rule_of : System → List Assignment → RefusalRule StaticRefusal
rule_of m xs = first_of xs (rule m)

pub loop-assign-preserved : goal.loop-assign-preserved
loop-assign-preserved c =
    let xs : List Assignment = c.assigns_of-assigns.result.now in
    let M : Assignment → Type 0 = λ a. (a.part ≡ Part.Now) × IsFlagged c.args.others.now a in
    below_more (λ (k : ℕ). (d : Assignment) → M (get_or xs k d) → ⊥) c.loop-assign.assign-index c.loop-assign.invariant (λ d h. differ (sym c.if-is_beside.false ∙ c.is_beside.ensures.1
    (subst M (get_or_default xs c.loop-assign.assign-index d c.assign-item.result c.loop-assign-test.true ∙ sym c.assign-item.is) h)))

pub returns-then-is_beside-clause-err : goal.returns-then-is_beside-clause-err
returns-then-is_beside-clause-err c =
    let m : System = c.args.flat.now in
    let xs : List Assignment = c.assigns_of-assigns.result.now in
    let item : Assignment = c.assign-item.result in
    let h = c.is_beside.ensures.0 c.if-is_beside.true in
    let other : HasOther m.assigns item.var = (c.requires item.var).0 h.1 in
    subst (λ (ys : List Assignment). rule_of m ys (StaticRefusal.CurrentBesideOther c.line_of_assign.result)) c.assigns_of-assigns.ensures
    (first_in_list (rule m) xs c.loop-assign.assign-index item _ c.loop-assign-test.true
    (λ j d under. silent_refuse (λ beside. c.loop-assign.invariant j under d (beside.0, (c.requires (get_or xs j d).var).1 beside.1)))
    (subst (λ (x : Assignment). rule m x (StaticRefusal.CurrentBesideOther c.line_of_assign.result)) c.assign-item.is (ap StaticRefusal.CurrentBesideOther c.line_of_assign.ensures, (h.0, other))))

pub returns-clause-ok : goal.returns-clause-ok
returns-clause-ok c =
    let m : System = c.args.flat.now in
    subst (λ (ys : List Assignment). Silent (rule_of m ys)) c.assigns_of-assigns.ensures
    (silent_list (rule m) c.assigns_of-assigns.result.now (λ k d below. silent_refuse (λ beside. c.loop-assign.invariant k (omega arith) d (beside.0, (c.requires (get_or c.assigns_of-assigns.result.now k d).var).1 beside.1))))
