use Rattle.std.proofs.Common.{◌≡◌, List, [], sym, ◌∙◌, ap, map}
use Rattle.std.proofs.lemmas.Result.{err_from_is_err_and}
use Rattle.smv_lexer.specs.declared.sign.Sign.{Sign}
use Rattle.smv_lexer.specs.Text.{Placed}
use Rattle.smv_lexer.specs.View.{views}
use Rattle.reader_laws.specs.Reading.{expect}
use Rattle.reader_laws.specs.Reading.Reading.{found}
use Rattle.reader_laws.proofs.Readers.{found-then}
use Rattle.smv_parser.specs.ProgramReading.{commas}
use Rattle.smv_parser.specs.Tests.{is_sign}
use Rattle.smv_parser.proofs.Codes.{Fails-then, enclosed_fails, enclosed_fails_after, enclosed_found}
use Rattle.smv_parser.proofs.ItemCodes.{inside_none, inside_some}
use Rattle.smv_parser.proofs.items.read_inside.Goals as goal

pub returns-in_err-rest-clause-reads : goal.returns-in_err-rest-clause-reads
returns-in_err-rest-clause-reads g c =
    let q = inside_none g.T.Item.reading (views c.args.tokens.now) (sym c.if-begins_with_sign.ensures) in
    let p = err_from_is_err_and c.from_residual.result c.from_residual.ensures.1 in
    rw (p.1, p.2) (rw q (Fails-then c.in_err-rest.field-0.0 (expect (is_sign Sign.CloseParen) (views c.args.tokens.now)) (λ _ r. found [] r) c.in_err-rest.ensures.reads))

pub returns-then-begins_with_sign-clause-reads : goal.returns-then-begins_with_sign-clause-reads
returns-then-begins_with_sign-clause-reads g c =
    inside_none g.T.Item.reading (views c.args.tokens.now) (sym c.if-begins_with_sign.ensures)
    ∙ found-then (expect (is_sign Sign.CloseParen) (views c.args.tokens.now)) c.in_ok-rest.ensures.reads.0 (views c.in_ok-rest.rest.now) (λ _ r. found [] r) c.in_ok-rest.ensures.reads.1
    ∙ ap (λ (l : List _). found (map g.T.Item.tree l) (views c.in_ok-rest.rest.now)) (sym c.new.ensures.items)

pub returns-in_err-items-clause-reads : goal.returns-in_err-items-clause-reads
returns-in_err-items-clause-reads g c =
    let q = inside_some g.T.Item.reading (views c.args.tokens.now) (sym c.if-begins_with_sign.ensures) in
    let p = err_from_is_err_and c.from_residual-in_err-items.result c.from_residual-in_err-items.ensures.1 in
    rw (p.1, p.2) (rw q (enclosed_fails (is_sign Sign.CloseParen) (commas g.T.Item.reading) (views c.args.tokens.now) c.in_err-items.field-0.0 c.in_err-items.ensures.reads))

pub returns-in_err-rest-2-clause-reads : goal.returns-in_err-rest-2-clause-reads
returns-in_err-rest-2-clause-reads g c =
    let q = inside_some g.T.Item.reading (views c.args.tokens.now) (sym c.if-begins_with_sign.ensures) in
    let p = err_from_is_err_and c.from_residual-in_err-rest-2.result c.from_residual-in_err-rest-2.ensures.1 in
    rw (p.1, p.2) (rw q (enclosed_fails_after (is_sign Sign.CloseParen) (commas g.T.Item.reading) (views c.args.tokens.now) (views c.in_ok-items.rest.now) (map g.T.Item.tree c.in_ok-items.items.items)
    c.in_err-rest-2.field-0.0 c.in_ok-items.ensures.reads c.in_err-rest-2.ensures.reads))

pub returns-clause-reads : goal.returns-clause-reads
returns-clause-reads g c =
    inside_some g.T.Item.reading (views c.args.tokens.now) (sym c.if-begins_with_sign.ensures)
    ∙ enclosed_found (is_sign Sign.CloseParen) (commas g.T.Item.reading) (views c.args.tokens.now) (views c.in_ok-items.rest.now) (views c.in_ok-rest-2.rest.now) (map g.T.Item.tree c.in_ok-items.items.items)
    c.in_ok-rest-2.ensures.reads.0 c.in_ok-items.ensures.reads c.in_ok-rest-2.ensures.reads.1
