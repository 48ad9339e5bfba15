use Rattle.std.proofs.Common.{append-nil, sym, ◌∙◌, ap}
use Rattle.std.specs.Prelude.{flat_map}
use Rattle.proof_form.specs.Filling.{lists_of}
use Rattle.proof_form.proofs.Pieces.{joined-append}
use Rattle.block_proofs.proofs.Marked.{marked_more}
use Rattle.block_proofs.proofs.marking.mark_lists.Goals as goal

pub loop-list-preserved : goal.loop-list-preserved
loop-list-preserved c =
    marked_more (λ xs. flat_map (λ sets. sets) (lists_of xs)) joined-append c.args.lists.now c.loop-list.list-index c.list-item.result c.deref.result.now c.loop-list-test.true
    (append-nil _ ∙ ap (λ l. l.items) (sym c.list-item.is) ∙ sym c.deref.ensures.value) c.loop-list.invariant c.mark_list.ensures
