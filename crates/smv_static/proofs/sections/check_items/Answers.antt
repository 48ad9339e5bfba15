use Rattle.std.proofs.Common.{◌≡◌, List, sym, subst, inl, inr}
use Rattle.std.proofs.lemmas.Result.{err_from_is_err_and}
use Rattle.kripke_model.specs.declared.refusals.StaticRefusal.{StaticRefusal}
use Rattle.kripke_model.specs.System.{Assignment, Condition}
use Rattle.kripke_model.specs.Refusing.{Silent}
use Rattle.kripke_model.proofs.FirstLemmas.{silent_then}
use Rattle.smv_static.proofs.ResultLemmas.{on_ok, if_err}
use Rattle.smv_static.specs.declared.sections.ItemRule.{ItemRule}
use Rattle.smv_static.specs.declared.sections.Section.{Section}
use Rattle.smv_static.specs.Sections.{assignments_rule, conditions_rule}
use Rattle.smv_static.proofs.sections.check_items.Goals as goal

silent_conditions : (r : ItemRule) (s : Section) (xs ys : List Condition) → xs ≡ ys → Silent (conditions_rule r s xs) → Silent (conditions_rule r s ys)
silent_conditions r s xs ys e h = subst (λ zs. Silent (conditions_rule r s zs)) e h

silent_assigns : (r : ItemRule) (xs ys : List Assignment) → xs ≡ ys → Silent (assignments_rule r xs) → Silent (assignments_rule r ys)
silent_assigns r xs ys e h = subst (λ zs. Silent (assignments_rule r zs)) e h

pub returns-in_err-refuse_items-2-clause-err : goal.returns-in_err-refuse_items-2-clause-err
returns-in_err-refuse_items-2-clause-err c =
    let r = c.args.rule in
    let p = err_from_is_err_and c.from_residual-in_err-refuse_items-2.result c.from_residual-in_err-refuse_items-2.ensures.1 in
    rw p.1 (inr (
      silent_assigns r _ _ c.assigns_of.ensures c.in_ok-refuse_assigns.ensures.ok,
      inr (
        silent_conditions r Section.State _ _ c.inits_of.ensures c.in_ok-refuse_items.ensures.ok,
        inl (subst (λ (xs : List Condition). conditions_rule r Section.State xs p.0) c.invars_of.ensures (subst (λ (y : StaticRefusal). conditions_rule r Section.State c.invars_of.result.now y) (sym p.2) c.in_err-refuse_items-2.ensures.err)),
      ),
    ))

pub returns-in_err-refuse_items-3-clause-err : goal.returns-in_err-refuse_items-3-clause-err
returns-in_err-refuse_items-3-clause-err c =
    let r = c.args.rule in
    let p = err_from_is_err_and c.from_residual-in_err-refuse_items-3.result c.from_residual-in_err-refuse_items-3.ensures.1 in
    rw p.1 (inr (
      silent_assigns r _ _ c.assigns_of.ensures c.in_ok-refuse_assigns.ensures.ok,
      inr (
        silent_conditions r Section.State _ _ c.inits_of.ensures c.in_ok-refuse_items.ensures.ok,
        inr (
          silent_conditions r Section.State _ _ c.invars_of.ensures c.in_ok-refuse_items-2.ensures.ok,
          inl (subst (λ (xs : List Condition). conditions_rule r Section.Step xs p.0) c.trans_of.ensures (subst (λ (y : StaticRefusal). conditions_rule r Section.Step c.trans_of.result.now y) (sym p.2) c.in_err-refuse_items-3.ensures.err)),
        ),
      ),
    ))

pub returns-in_err-refuse_items-4-clause-err : goal.returns-in_err-refuse_items-4-clause-err
returns-in_err-refuse_items-4-clause-err c =
    let r = c.args.rule in
    let p = err_from_is_err_and c.from_residual-in_err-refuse_items-4.result c.from_residual-in_err-refuse_items-4.ensures.1 in
    rw p.1 (inr (
      silent_assigns r _ _ c.assigns_of.ensures c.in_ok-refuse_assigns.ensures.ok,
      inr (
        silent_conditions r Section.State _ _ c.inits_of.ensures c.in_ok-refuse_items.ensures.ok,
        inr (
          silent_conditions r Section.State _ _ c.invars_of.ensures c.in_ok-refuse_items-2.ensures.ok,
          inr (
            silent_conditions r Section.Step _ _ c.trans_of.ensures c.in_ok-refuse_items-3.ensures.ok,
            inl (subst (λ (xs : List Condition). conditions_rule r Section.Formula xs p.0) c.constraints_of.ensures (subst (λ (y : StaticRefusal). conditions_rule r Section.Formula c.constraints_of.result.now y) (sym p.2) c.in_err-refuse_items-4.ensures.err)),
          ),
        ),
      ),
    ))

pub returns-clause-ok : goal.returns-clause-ok
returns-clause-ok c =
    let r = c.args.rule in
    on_ok c.refuse_items-5.result (λ s.
    silent_then (silent_assigns r _ _ c.assigns_of.ensures c.in_ok-refuse_assigns.ensures.ok)
    (silent_then (silent_conditions r Section.State _ _ c.inits_of.ensures c.in_ok-refuse_items.ensures.ok)
    (silent_then (silent_conditions r Section.State _ _ c.invars_of.ensures c.in_ok-refuse_items-2.ensures.ok)
    (silent_then (silent_conditions r Section.Step _ _ c.trans_of.ensures c.in_ok-refuse_items-3.ensures.ok)
    (silent_then (silent_conditions r Section.Formula _ _ c.constraints_of.ensures c.in_ok-refuse_items-4.ensures.ok)
    (silent_conditions r Section.Formula _ _ c.specs_of.ensures s))))))
    c.refuse_items-5.ensures.ok

pub returns-clause-err : goal.returns-clause-err
returns-clause-err c =
    let r = c.args.rule in
    if_err c.refuse_items-5.result (λ e h.
    inr (
      silent_assigns r _ _ c.assigns_of.ensures c.in_ok-refuse_assigns.ensures.ok,
      inr (
        silent_conditions r Section.State _ _ c.inits_of.ensures c.in_ok-refuse_items.ensures.ok,
        inr (
          silent_conditions r Section.State _ _ c.invars_of.ensures c.in_ok-refuse_items-2.ensures.ok,
          inr (
            silent_conditions r Section.Step _ _ c.trans_of.ensures c.in_ok-refuse_items-3.ensures.ok,
            inr (
              silent_conditions r Section.Formula _ _ c.constraints_of.ensures c.in_ok-refuse_items-4.ensures.ok,
              subst (λ (xs : List Condition). conditions_rule r Section.Formula xs e) c.specs_of.ensures h,
            ),
          ),
        ),
      ),
    ))
    c.refuse_items-5.ensures.err
