use Rattle.std.proofs.Common.{◌≡◌, ◌<◌, false, true, length, get_or, set, slice_get, Some, refl, subst, arith}
use Rattle.std.proofs.lemmas.Option.{same_Some}
use Rattle.proof_text.proofs.NameTables.{one_place, place_within}
use Rattle.proof_text.proofs.order_marks.mark.Goals as goal

pub returns-then-marks-x-clause-none : goal.returns-then-marks-x-clause-none
returns-then-marks-x-clause-none c = λ none y at.
    subst (λ z. get_or c.args.marks.now z false ≡ true) (one_place c.args.names.now c.requires.distinct c.in_ok-x.x y c.args.name.now c.in_ok-x.ensures at) c.if-marks-x.true

pub bounds-marks-x-2 : goal.bounds-marks-x-2
bounds-marks-x-2 c = omega (arith, (place_within c.args.names.now c.in_ok-x.x c.args.name.now c.in_ok-x.ensures).0, c.requires.each)

pub returns-clause-some : goal.returns-clause-some
returns-clause-some c = λ y e.
    subst (λ z. (slice_get c.args.names.now z ≡ Some c.args.name.now) × (z < length c.args.marks.now) × (get_or c.args.marks.now z false ≡ false) × (set c.args.marks.now c.in_ok-x.x true ≡ set c.args.marks.now z true))
    (same_Some c.in_ok-x.x y e)
    (c.in_ok-x.ensures, omega (arith, (place_within c.args.names.now c.in_ok-x.x c.args.name.now c.in_ok-x.ensures).0, c.requires.each), c.if-marks-x.false, refl)
