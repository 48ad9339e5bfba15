use Rattle.std.proofs.Common.{◌≡◌, ◌+◌, [], ◌∷◌, take, get_or, refl, sym, subst, arith}
use Rattle.proof_form.specs.Filling.{AreTaken, blank, list_form}
use Rattle.proof_form.proofs.Taken.{list_size, room_left, form_more, taken_then}
use Rattle.proof_form.proofs.numbering.number_list.Goals as goal

pub take_number-requires : goal.take_number-requires
take_number-requires c =
    let v = c.loop-set.invariant in
    let r = room_left (λ xs. xs) (λ xs ys. refl) c.args.list.now c.loop-set._set-index (record { slot = 0 }) (get_or c.args.list.now c.loop-set._set-index (record { slot = 0 }) ∷ []) c.args.numbers.now c.loop-set.filled.items _ _ c.loop-set-test.true refl c.requires v.1 (list_size (take c.loop-set._set-index c.args.list.now) c.loop-set.filled.items v.0) in
    omega (arith, r)

pub loop-set-preserved : goal.loop-set-preserved
loop-set-preserved c =
    let v = c.loop-set.invariant in
    subst (λ ns. (list_form ns ≡ list_form (take (c.loop-set._set-index + 1) c.args.list.now)) × AreTaken c.args.numbers.now c.args.next.now c.take_number.new.next ns) (sym c.in_ok-push.ensures.items)
    (form_more blank blank c.loop-set.filled.items c.take_number.result c.args.list.now c.loop-set._set-index (record { slot = 0 }) c.loop-set-test.true v.0 refl, taken_then v.1 c.take_number.ensures)
