use Rattle.std.proofs.Common.{[], ◌∷◌, get_or, refl}
use Rattle.std.proofs.lemmas.Result.{err_from_is_err_and}
use Rattle.region_sets.proofs.Slots.{is_one_of-first}
use Rattle.proof_form.proofs.Pieces.{next_live, next_copied, next_refused}
use Rattle.proof_form.proofs.gathering.copy_list.Goals as goal

pub copy_set-requires : goal.copy_set-requires
copy_set-requires g c =
    let set = get_or c.args.list.now c.loop-set.set-index (record { slot = 0 }) in
    next_live (λ xs. xs) (λ xs ys. refl) c.args.list.now c.loop-set.set-index (record { slot = 0 }) c.loop-set-test.true (set ∷ []) refl c.requires c.loop-set.invariant set.slot (is_one_of-first set.slot [])

pub returns-in_err-copy_set : goal.returns-in_err-copy_set
returns-in_err-copy_set g c =
    let set = get_or c.args.list.now c.loop-set.set-index (record { slot = 0 }) in
    let p = err_from_is_err_and c.from_residual.result c.from_residual.ensures.1 in
    rw (p.1, p.2) (next_refused (λ xs. xs) (λ xs ys. refl) c.args.list.now c.loop-set.set-index (record { slot = 0 }) c.loop-set-test.true (set ∷ []) refl c.requires c.loop-set.invariant c.in_err-copy_set.field-0.0 c.in_err-copy_set.ensures)

pub loop-set-preserved : goal.loop-set-preserved
loop-set-preserved g c =
    let set = get_or c.args.list.now c.loop-set.set-index (record { slot = 0 }) in
    next_copied (λ xs. xs) (λ xs ys. refl) c.args.list.now c.loop-set.set-index (record { slot = 0 }) c.loop-set-test.true (set ∷ []) refl c.requires c.loop-set.invariant c.in_ok-copy_set.ensures
