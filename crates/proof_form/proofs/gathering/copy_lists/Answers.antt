use Rattle.std.proofs.Common.{append-nil, sym, ◌∙◌, ap}
use Rattle.std.specs.Prelude.{flat_map}
use Rattle.std.proofs.lemmas.Result.{err_from_is_err_and}
use Rattle.proof_form.specs.Filling.{lists_of}
use Rattle.proof_form.proofs.Pieces.{joined-append, next_live, next_copied, next_refused}
use Rattle.proof_form.proofs.gathering.copy_lists.Goals as goal

pub copy_list-requires : goal.copy_list-requires
copy_list-requires g c =
    next_live (λ xs. flat_map (λ sets. sets) (lists_of xs)) joined-append c.args.lists.now c.loop-list.list-index c.list-item.result c.loop-list-test.true c.deref.result.now (append-nil _ ∙ ap (λ l. l.items) (sym c.list-item.is) ∙ sym c.deref.ensures.value) c.requires c.loop-list.invariant

pub returns-in_err-copy_list : goal.returns-in_err-copy_list
returns-in_err-copy_list g c =
    let p = err_from_is_err_and c.from_residual.result c.from_residual.ensures.1 in
    rw (p.1, p.2) (next_refused (λ xs. flat_map (λ sets. sets) (lists_of xs)) joined-append c.args.lists.now c.loop-list.list-index c.list-item.result c.loop-list-test.true c.deref.result.now (append-nil _ ∙ ap (λ l. l.items) (sym c.list-item.is) ∙ sym c.deref.ensures.value) c.requires c.loop-list.invariant
    c.in_err-copy_list.field-0.0 c.in_err-copy_list.ensures)

pub loop-list-preserved : goal.loop-list-preserved
loop-list-preserved g c =
    next_copied (λ xs. flat_map (λ sets. sets) (lists_of xs)) joined-append c.args.lists.now c.loop-list.list-index c.list-item.result c.loop-list-test.true c.deref.result.now (append-nil _ ∙ ap (λ l. l.items) (sym c.list-item.is) ∙ sym c.deref.ensures.value) c.requires c.loop-list.invariant c.in_ok-copy_list.ensures
