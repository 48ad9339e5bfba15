use Rattle.std.proofs.Common.{◌≡◌, ◌≤◌, ◌<◌, ℕ, List, [], ◌∷◌, ◌++◌, map, length, refl, sym, ◌∙◌, ap, arith, append-nil}
use Rattle.std.proofs.lemmas.Result.{err_from_is_err_and}
use Rattle.smv_lexer.specs.declared.sign.Sign.{Sign}
use Rattle.smv_lexer.specs.View.{views}
use Rattle.reader_laws.specs.Reading.{headed}
use Rattle.reader_laws.specs.Reading.Reading.{found}
use Rattle.smv_parser.specs.Tests.{is_sign}
use Rattle.smv_parser.proofs.Codes.{first_some, headed_fails, headed_is, length-views, rest_fails, rest_more, rest_stops}
use Rattle.smv_parser.proofs.ItemCodes.{commas_fail, commas_start, map-push}
use Rattle.smv_parser.proofs.items.read_commas.Goals as goal

pub returns-in_err-first-clause-reads : goal.returns-in_err-first-clause-reads
returns-in_err-first-clause-reads g c =
    let p = err_from_is_err_and c.from_residual.result c.from_residual.ensures.1 in
    rw (p.1, p.2) (commas_fail g.T.Item.reading (views c.args.tokens.now) c.in_err-first.field-0.0 c.in_err-first.ensures.reads)

pub loop-alloc-init : goal.loop-alloc-init
loop-alloc-init g c =
    let e1 : c.push.new.self.items ≡ c.in_ok-first.first ∷ [] = c.in_ok-push.ensures.items ∙ ap (λ (l : List _). l ++ c.in_ok-first.first ∷ []) c.new-items.ensures.items in (
      c.in_ok-first.ensures.shorter,
      length (views c.in_ok-first.rest.now),
      (λ xs. g.T.Item.tree c.in_ok-first.first ∷ xs),
      omega arith,
      (λ xs. ap (λ (l : List _). map g.T.Item.tree l ++ xs) (sym e1)),
      commas_start g.T.Item.reading (views c.args.tokens.now) (views c.in_ok-first.rest.now) (g.T.Item.tree c.in_ok-first.first) c.in_ok-first.ensures.reads,
    )

pub returns-in_err-after-clause-reads : goal.returns-in_err-after-clause-reads
returns-in_err-after-clause-reads g c =
    let i = c.loop-alloc.invariant in
    let f = sym c.loop-alloc-test.ensures in
    let p = err_from_is_err_and c.from_residual-in_err-after.result c.from_residual-in_err-after.ensures.1 in
    rw (p.1, p.2) (rw i.5 (rest_fails (is_sign Sign.Comma) (headed (is_sign Sign.Comma) g.T.Item.reading) i.1 (views c.loop-alloc.rest.now) i.2 c.in_err-after.field-0.0 f
    (headed_fails (is_sign Sign.Comma) g.T.Item.reading (views c.loop-alloc.rest.now) c.in_err-after.field-0.0 c.in_err-after.ensures.reads) i.3 (first_some (is_sign Sign.Comma) (views c.loop-alloc.rest.now) f)))

pub returns-in_err-next-clause-reads : goal.returns-in_err-next-clause-reads
returns-in_err-next-clause-reads g c =
    let i = c.loop-alloc.invariant in
    let f = sym c.loop-alloc-test.ensures in
    let w = headed_is (is_sign Sign.Comma) g.T.Item.reading (views c.loop-alloc.rest.now) (views c.in_ok-after.after.now) c.in_ok-after.ensures.reads.0 c.in_ok-after.ensures.reads.1 in
    let p = err_from_is_err_and c.from_residual-in_err-next.result c.from_residual-in_err-next.ensures.1 in
    rw (p.1, p.2) (rw i.5 (rest_fails (is_sign Sign.Comma) (headed (is_sign Sign.Comma) g.T.Item.reading) i.1 (views c.loop-alloc.rest.now) i.2 c.in_err-next.field-0.0 f
    (rw w c.in_err-next.ensures.reads) i.3 (first_some (is_sign Sign.Comma) (views c.loop-alloc.rest.now) f)))

pub loop-alloc-preserved : goal.loop-alloc-preserved
loop-alloc-preserved g c =
    let i = c.loop-alloc.invariant in
    let f = sym c.loop-alloc-test.ensures in
    let x : g.T.Item.Tree = g.T.Item.tree c.in_ok-next.next in
    let w = headed_is (is_sign Sign.Comma) g.T.Item.reading (views c.loop-alloc.rest.now) (views c.in_ok-after.after.now) c.in_ok-after.ensures.reads.0 c.in_ok-after.ensures.reads.1 ∙ c.in_ok-next.ensures.reads in
    let short : length (views c.in_ok-next.after.now) < length (views c.loop-alloc.rest.now)
    = omega (arith, c.in_ok-next.ensures.shorter, c.in_ok-after.ensures.shorter, length-views c.in_ok-next.after.now, length-views c.loop-alloc.rest.now) in
    let q = rest_more (is_sign Sign.Comma) (headed (is_sign Sign.Comma) g.T.Item.reading) i.1 (views c.loop-alloc.rest.now) (views c.in_ok-next.after.now) x i.2 f w i.3 short in
    let e : c.push-in-loop-alloc.new.self.items ≡ c.loop-alloc.items.items ++ c.in_ok-next.next ∷ [] = c.in_ok-push-2.ensures.items in (
      omega (arith, i.0, c.in_ok-next.ensures.shorter, c.in_ok-after.ensures.shorter),
      q.0,
      (λ xs. i.2 (x ∷ xs)),
      q.1,
      (λ xs. i.4 (x ∷ xs) ∙ sym (map-push g.T.Item.tree c.loop-alloc.items.items c.in_ok-next.next xs) ∙ ap (λ (l : List _). map g.T.Item.tree l ++ xs) (sym e)),
      i.5 ∙ q.2,
    )

pub returns-clause-reads : goal.returns-clause-reads
returns-clause-reads g c =
    let i = c.loop-alloc.invariant in
    i.5 ∙ rest_stops (is_sign Sign.Comma) (headed (is_sign Sign.Comma) g.T.Item.reading) i.1 (views c.loop-alloc.rest.now) i.2 (sym c.loop-alloc-test.ensures)
    ∙ ap (λ (z : _). found z (views c.loop-alloc.rest.now)) (i.4 [] ∙ append-nil (map g.T.Item.tree c.loop-alloc.items.items))
