use Rattle.std.proofs.Common.{◌≡◌, ◌+◌, take, sym, ◌∙◌, ap, subst, append-nil}
use Rattle.std.specs.Prelude.{flat_map}
use Rattle.proof_form.specs.Filling.{AreTaken, list_form, lists_form, lists_of}
use Rattle.proof_form.proofs.Pieces.{joined-append}
use Rattle.proof_form.proofs.Taken.{lists_size, room_left, lists_more, filled_more}
use Rattle.proof_form.proofs.numbering.number_lists.Goals as goal

pub number_list-requires : goal.number_list-requires
number_list-requires c =
    let v = c.loop-list.invariant in
    room_left (λ xs. flat_map (λ sets. sets) (lists_of xs)) joined-append c.args.lists.now c.loop-list.list-index c.list-item.result c.deref.result.now c.args.numbers.now (flat_map (λ sets. sets) (lists_of c.loop-list.filled.items)) _ _ c.loop-list-test.true (append-nil _ ∙ ap (λ l. l.items) (sym c.list-item.is) ∙ sym c.deref.ensures.value) c.requires v.1
    (lists_size (take c.loop-list.list-index c.args.lists.now) c.loop-list.filled.items v.0)

pub loop-list-preserved : goal.loop-list-preserved
loop-list-preserved c =
    let v = c.loop-list.invariant in
    subst (λ ls. (lists_form (lists_of ls) ≡ lists_form (lists_of (take (c.loop-list.list-index + 1) c.args.lists.now))) × AreTaken c.args.numbers.now c.args.next.now c.number_list.new.next (flat_map (λ sets. sets) (lists_of ls))) (sym c.in_ok-push.ensures.items) (
      lists_more c.loop-list.filled.items c.in_ok-number_list.field-0 c.args.lists.now c.loop-list.list-index c.list-item.result c.loop-list-test.true v.0
          (c.in_ok-number_list.ensures.form ∙ ap list_form (c.deref.ensures.value ∙ ap (λ l. l.items) c.list-item.is)),
      filled_more (λ xs. flat_map (λ sets. sets) (lists_of xs)) joined-append c.loop-list.filled.items c.in_ok-number_list.field-0 c.in_ok-number_list.field-0.items v.1 (append-nil _) c.in_ok-number_list.ensures.numbers,
    )
