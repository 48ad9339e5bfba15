use Rattle.std.proofs.Common.{◌≡◌, List, sym, ◌∙◌, ap, map}
use Rattle.std.proofs.lemmas.Result.{err_from_is_err_and}
use Rattle.smv_lexer.specs.declared.sign.Sign.{Sign}
use Rattle.smv_lexer.specs.View.{views}
use Rattle.reader_laws.specs.Reading.Reading.{found}
use Rattle.smv_parser.specs.ProgramReading.{inside}
use Rattle.smv_parser.specs.Tests.{is_sign}
use Rattle.smv_parser.proofs.Codes.{headed_fails, headed_is}
use Rattle.smv_parser.proofs.ItemCodes.{parameters_none, parameters_some}
use Rattle.smv_parser.proofs.items.read_parameters.Goals as goal

pub returns-in_err-rest-clause-reads : goal.returns-in_err-rest-clause-reads
returns-in_err-rest-clause-reads g c =
    let q = parameters_some g.T.Item.reading (views c.args.tokens.now) (sym c.if-begins_with_sign.ensures) in
    let p = err_from_is_err_and c.from_residual.result c.from_residual.ensures.1 in
    rw (p.1, p.2) (rw q (headed_fails (is_sign Sign.OpenParen) (inside g.T.Item.reading) (views c.args.tokens.now) c.in_err-rest.field-0.0 c.in_err-rest.ensures.reads))

pub returns-in_err-items-clause-reads : goal.returns-in_err-items-clause-reads
returns-in_err-items-clause-reads g c =
    let q = parameters_some g.T.Item.reading (views c.args.tokens.now) (sym c.if-begins_with_sign.ensures) in
    let w = headed_is (is_sign Sign.OpenParen) (inside g.T.Item.reading) (views c.args.tokens.now) (views c.in_ok-rest.rest.now) c.in_ok-rest.ensures.reads.0 c.in_ok-rest.ensures.reads.1 in
    let p = err_from_is_err_and c.from_residual-in_err-items.result c.from_residual-in_err-items.ensures.1 in
    rw (p.1, p.2) (rw (q, w) c.in_err-items.ensures.reads)

pub returns-then-begins_with_sign-clause-reads : goal.returns-then-begins_with_sign-clause-reads
returns-then-begins_with_sign-clause-reads g c =
    parameters_some g.T.Item.reading (views c.args.tokens.now) (sym c.if-begins_with_sign.ensures)
    ∙ headed_is (is_sign Sign.OpenParen) (inside g.T.Item.reading) (views c.args.tokens.now) (views c.in_ok-rest.rest.now) c.in_ok-rest.ensures.reads.0 c.in_ok-rest.ensures.reads.1
    ∙ c.in_ok-items.ensures.reads

pub returns-clause-reads : goal.returns-clause-reads
returns-clause-reads g c =
    parameters_none g.T.Item.reading (views c.args.tokens.now) (sym c.if-begins_with_sign.ensures)
    ∙ ap (λ (l : List _). found (map g.T.Item.tree l) (views c.args.tokens.now)) (sym c.new.ensures.items)
