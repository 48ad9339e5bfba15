use Rattle.std.proofs.Common.{◌≡◌, ◌<◌, Some, length, refl, ◌∙◌, ap, arith}
use Rattle.std.proofs.lemmas.Option.{slice_get_read}
use Rattle.answer_memo.specs.Place.{place}
use Rattle.answer_memo.proofs.Spreads.{IsSpread-set}
use Rattle.answer_memo.proofs.memo.move_in.Goals as goal

pub returns-clause-spread : goal.returns-clause-spread
returns-clause-spread g c = λ from k n c_at s.
    let xs = c.args.to.now.items in
    let input = g.K.Hash.hash_input in
    let h = c.in-Full.held in
    let at : c.place_of-at.result ≡ place (input h.key) (length xs) = c.place_of-at.ensures.place ∙ ap (place (input h.key)) (c.len.ensures ∙ c.args.to.now.ok.0) in
    let inside : c.place_of-at.result < length xs = omega (arith, c.if-at-len.false, c.len-2.ensures, c.args.to.now.ok) in
    let here = slice_get_read xs (length xs) c.place_of-at.result c.index.result.now refl inside c.index.ensures in
    IsSpread-set input from xs n h c.index.result.now k c.place_of-at.result c.one_if_free-newly.result (c_at ∙ ap Some c.in-Full.is) at here c.one_if_free-newly.ensures s
