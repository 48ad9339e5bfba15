use Rattle.std.proofs.Common.{sym, subst, inr}
use Rattle.std.proofs.lemmas.Result.{err_from_is_err_and}
use Rattle.kripke_model.specs.declared.refusals.StaticRefusal.{StaticRefusal}
use Rattle.kripke_model.specs.System.{System}
use Rattle.kripke_model.specs.Static.{Breaks, assigned_twice, current_beside_other, circular_assignment, next_not_allowed, formula_not_allowed}
use Rattle.kripke_model.specs.Refusing.{◌then◌}
use Rattle.kripke_model.proofs.FirstLemmas.{silent_then}
use Rattle.smv_static.proofs.ResultLemmas.{on_ok, if_err}
use Rattle.smv_static.proofs.RuleLemmas.{OrMemory, at_first, at_second}
use Rattle.smv_static.proofs.acceptance.check.Goals as goal

module _ (m : System) where
  abbrev items_last : StaticRefusal → Type 0
  items_last r = (next_not_allowed m then formula_not_allowed m) r

  abbrev cycles_on : StaticRefusal → Type 0
  cycles_on r = (circular_assignment m then next_not_allowed m then formula_not_allowed m) r

  abbrev beside_on : StaticRefusal → Type 0
  beside_on r = (current_beside_other m then circular_assignment m then next_not_allowed m then formula_not_allowed m) r

pub returns-in_err-check_twice-clause-err : goal.returns-in_err-check_twice-clause-err
returns-in_err-check_twice-clause-err c =
    let m = c.args.flat.now in
    let p = err_from_is_err_and c.from_residual.result c.from_residual.ensures.1 in
    rw p.1 (subst (λ (r : StaticRefusal). OrMemory (Breaks m) r) (sym p.2) (at_first (assigned_twice m) (beside_on m) _ c.in_err-check_twice.ensures.err))

pub returns-in_err-check_beside-clause-err : goal.returns-in_err-check_beside-clause-err
returns-in_err-check_beside-clause-err c =
    let m = c.args.flat.now in
    let p = err_from_is_err_and c.from_residual-in_err-check_beside.result c.from_residual-in_err-check_beside.ensures.1 in
    rw p.1 (subst (λ (r : StaticRefusal). OrMemory (Breaks m) r) (sym p.2)
    (at_second (assigned_twice m) (beside_on m) _ c.in_ok-check_twice.ensures.ok
    (at_first (current_beside_other m) (cycles_on m) _ c.in_err-check_beside.ensures.err)))

pub returns-in_err-check_cycles-clause-err : goal.returns-in_err-check_cycles-clause-err
returns-in_err-check_cycles-clause-err c =
    let m = c.args.flat.now in
    let p = err_from_is_err_and c.from_residual-in_err-check_cycles.result c.from_residual-in_err-check_cycles.ensures.1 in
    rw p.1 (subst (λ (r : StaticRefusal). OrMemory (Breaks m) r) (sym p.2)
    (at_second (assigned_twice m) (beside_on m) _ c.in_ok-check_twice.ensures.ok
    (at_second (current_beside_other m) (cycles_on m) _ c.in_ok-check_beside.ensures.ok
    (at_first (circular_assignment m) (items_last m) _ c.in_err-check_cycles.ensures.err))))

pub returns-in_err-check_items-clause-err : goal.returns-in_err-check_items-clause-err
returns-in_err-check_items-clause-err c =
    let m = c.args.flat.now in
    let p = err_from_is_err_and c.from_residual-in_err-check_items.result c.from_residual-in_err-check_items.ensures.1 in
    rw p.1 (subst (λ (r : StaticRefusal). OrMemory (Breaks m) r) (sym p.2)
    (at_second (assigned_twice m) (beside_on m) _ c.in_ok-check_twice.ensures.ok
    (at_second (current_beside_other m) (cycles_on m) _ c.in_ok-check_beside.ensures.ok
    (at_second (circular_assignment m) (items_last m) _ c.in_ok-check_cycles.ensures.ok
    (at_first (next_not_allowed m) (formula_not_allowed m) _ (inr c.in_err-check_items.ensures.err))))))

pub returns-clause-ok : goal.returns-clause-ok
returns-clause-ok c =
    on_ok c.check_items-2.result (λ s.
    silent_then c.in_ok-check_twice.ensures.ok (silent_then c.in_ok-check_beside.ensures.ok (silent_then c.in_ok-check_cycles.ensures.ok (silent_then c.in_ok-check_items.ensures.ok s))))
    c.check_items-2.ensures.ok

pub returns-clause-err : goal.returns-clause-err
returns-clause-err c =
    let m = c.args.flat.now in
    if_err c.check_items-2.result (λ r h.
    at_second (assigned_twice m) (beside_on m) r c.in_ok-check_twice.ensures.ok
    (at_second (current_beside_other m) (cycles_on m) r c.in_ok-check_beside.ensures.ok
    (at_second (circular_assignment m) (items_last m) r c.in_ok-check_cycles.ensures.ok
    (at_second (next_not_allowed m) (formula_not_allowed m) r c.in_ok-check_items.ensures.ok (inr h)))))
    c.check_items-2.ensures.err
