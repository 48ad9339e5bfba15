use Rattle.std.proofs.Common.{◌≡◌, ◌≤◌, ◌<◌, ℕ, List, [], ◌∷◌, ◌++◌, map, length, refl, sym, ◌∙◌, ap, arith, append-nil}
use Rattle.std.proofs.lemmas.Result.{err_from_is_err_and}
use Rattle.smv_lexer.specs.View.{views}
use Rattle.reader_laws.specs.Reading.Reading.{found}
use Rattle.smv_parser.proofs.Codes.{first_some, length-views, rest_fails, rest_more, rest_stops}
use Rattle.smv_parser.proofs.ItemCodes.{all_rest, map-push}
use Rattle.smv_parser.proofs.items.read_items.Goals as goal

pub loop-alloc-init : goal.loop-alloc-init
loop-alloc-init g c = (
  omega arith,
  length (views c.args.tokens.now),
  (λ xs. xs),
  omega arith,
  (λ xs. ap (λ (l : List _). map g.T.Item.tree l ++ xs) (sym c.new-items.ensures.items)),
  all_rest g.T.Led.begins g.T.Item.reading (length (views c.args.tokens.now)) (views c.args.tokens.now),
)

pub returns-in_err-item-clause-reads : goal.returns-in_err-item-clause-reads
returns-in_err-item-clause-reads g c =
    let i = c.loop-alloc.invariant in
    let f = sym c.loop-alloc-test.ensures in
    let p = err_from_is_err_and c.from_residual.result c.from_residual.ensures.1 in
    rw (p.1, p.2) (rw i.5 (rest_fails g.T.Led.begins g.T.Item.reading i.1 (views c.loop-alloc.rest.now) i.2 c.in_err-item.field-0.0 f
    c.in_err-item.ensures.reads i.3 (first_some g.T.Led.begins (views c.loop-alloc.rest.now) f)))

pub loop-alloc-preserved : goal.loop-alloc-preserved
loop-alloc-preserved g c =
    let i = c.loop-alloc.invariant in
    let f = sym c.loop-alloc-test.ensures in
    let x : g.T.Item.Tree = g.T.Item.tree c.in_ok-item.item in
    let short : length (views c.in_ok-item.after.now) < length (views c.loop-alloc.rest.now)
    = omega (arith, c.in_ok-item.ensures.shorter, length-views c.in_ok-item.after.now, length-views c.loop-alloc.rest.now) in
    let q = rest_more g.T.Led.begins g.T.Item.reading i.1 (views c.loop-alloc.rest.now) (views c.in_ok-item.after.now) x i.2 f c.in_ok-item.ensures.reads i.3 short in
    let e : c.push.new.self.items ≡ c.loop-alloc.items.items ++ c.in_ok-item.item ∷ [] = c.in_ok-push.ensures.items in (
      omega (arith, i.0, c.in_ok-item.ensures.shorter),
      q.0,
      (λ xs. i.2 (x ∷ xs)),
      q.1,
      (λ xs. i.4 (x ∷ xs) ∙ sym (map-push g.T.Item.tree c.loop-alloc.items.items c.in_ok-item.item xs) ∙ ap (λ (l : List _). map g.T.Item.tree l ++ xs) (sym e)),
      i.5 ∙ q.2,
    )

pub returns-clause-reads : goal.returns-clause-reads
returns-clause-reads g c =
    let i = c.loop-alloc.invariant in
    i.5 ∙ rest_stops g.T.Led.begins g.T.Item.reading i.1 (views c.loop-alloc.rest.now) i.2 (sym c.loop-alloc-test.ensures)
    ∙ ap (λ (z : _). found z (views c.loop-alloc.rest.now)) (i.4 [] ∙ append-nil (map g.T.Item.tree c.loop-alloc.items.items))
