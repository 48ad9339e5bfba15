use Rattle.std.proofs.Common.{◌≡◌, sym, ◌∙◌, subst, ◌<◌, arith}
use Rattle.std.specs.Prelude.{IfOk}
use Rattle.smv_instances.specs.Walk.{IsStep}
use Rattle.smv_instances.proofs.RowLemmas.{row_at, scope_of}
use Rattle.smv_instantiate.proofs.FrontSteps.{main_process, inner_step}
use Rattle.smv_instantiate.proofs.processes.process_name.Goals as goal

pub spelled_name-requires : goal.spelled_name-requires
spelled_name-requires c =
    let h = c.requires in
    let scope = scope_of h.0 c.args.rows.now h.1.0 c.args.number h.1.1 h.1.2 in
    let row = row_at h.0 c.args.rows.now h.1.0 c.args.number c.index-rows-number.result scope.0 h.1.1 h.1.2 c.index-rows-number.is scope.1 in
    let inner = inner_step h.1.0 c.args.number c.in-Some.step scope.0 (subst (λ o. IsStep h.1.0 c.args.number o scope.0) c.in-Some.is row.step) in
    let earlier : c.in-Some.step.around < c.args.number = inner.earlier in
    (h.0, (h.1.0, h.1.1, omega (arith, earlier, h.1.2)))

pub returns-in_ok-from_str-in-None : goal.returns-in_ok-from_str-in-None
returns-in_ok-from_str-in-None c = λ ms done s are at process.
    let row = row_at ms c.args.rows.now done c.args.number c.index-rows-number.result s are c.requires.1.2 c.index-rows-number.is at in
    c.new.ensures ∙ c.in_ok-from_str-in-None.ensures.ok ∙ sym (main_process done c.args.number s (subst (λ o. IsStep done c.args.number o s) c.in-None.is row.step))

pub returns-in-Some : goal.returns-in-Some
returns-in-Some c = λ ms done s are at process.
    let row = row_at ms c.args.rows.now done c.args.number c.index-rows-number.result s are c.requires.1.2 c.index-rows-number.is at in
    let inner = inner_step done c.args.number c.in-Some.step s (subst (λ o. IsStep done c.args.number o s) c.in-Some.is row.step) in
    subst (λ x. IfOk c.spelled_name.result (λ name. name ≡ x)) (sym (inner.process_is process)) (c.spelled_name.ensures ms done inner.around are inner.numbered)
