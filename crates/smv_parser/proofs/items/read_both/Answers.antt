use Rattle.std.proofs.Common.{◌≡◌, sym}
use Rattle.std.proofs.lemmas.Result.{err_from_is_err_and}
use Rattle.smv_lexer.specs.declared.sign.Sign.{Sign}
use Rattle.smv_lexer.specs.View.{views}
use Rattle.reader_laws.specs.Reading.{enclosed}
use Rattle.smv_parser.specs.Tests.{is_sign}
use Rattle.smv_parser.proofs.Codes.{both_fails, both_fails_after, both_found, enclosed_fails, enclosed_fails_after, enclosed_found}
use Rattle.smv_parser.proofs.items.read_both.Goals as goal

pub returns-in_err-first-clause-reads : goal.returns-in_err-first-clause-reads
returns-in_err-first-clause-reads g c =
    let p = err_from_is_err_and c.from_residual.result c.from_residual.ensures.1 in
    rw (p.1, p.2) (both_fails (enclosed (is_sign c.args.middle) g.A.Item.reading) (enclosed (is_sign Sign.Semicolon) g.B.Item.reading) (views c.args.tokens.now) c.in_err-first.field-0.0
    (enclosed_fails (is_sign c.args.middle) g.A.Item.reading (views c.args.tokens.now) c.in_err-first.field-0.0 c.in_err-first.ensures.reads))

pub returns-in_err-rest-clause-reads : goal.returns-in_err-rest-clause-reads
returns-in_err-rest-clause-reads g c =
    let p = err_from_is_err_and c.from_residual-in_err-rest.result c.from_residual-in_err-rest.ensures.1 in
    rw (p.1, p.2) (both_fails (enclosed (is_sign c.args.middle) g.A.Item.reading) (enclosed (is_sign Sign.Semicolon) g.B.Item.reading) (views c.args.tokens.now) c.in_err-rest.field-0.0
    (enclosed_fails_after (is_sign c.args.middle) g.A.Item.reading (views c.args.tokens.now) (views c.in_ok-first.rest.now) (g.A.Item.tree c.in_ok-first.first) c.in_err-rest.field-0.0
    c.in_ok-first.ensures.reads c.in_err-rest.ensures.reads))

pub returns-in_err-second-clause-reads : goal.returns-in_err-second-clause-reads
returns-in_err-second-clause-reads g c =
    let p = err_from_is_err_and c.from_residual-in_err-second.result c.from_residual-in_err-second.ensures.1 in
    rw (p.1, p.2) (both_fails_after (enclosed (is_sign c.args.middle) g.A.Item.reading) (enclosed (is_sign Sign.Semicolon) g.B.Item.reading) (views c.args.tokens.now)
    (g.A.Item.tree c.in_ok-first.first) (views c.in_ok-rest.rest.now) c.in_err-second.field-0.0
    (enclosed_found (is_sign c.args.middle) g.A.Item.reading (views c.args.tokens.now) (views c.in_ok-first.rest.now) (views c.in_ok-rest.rest.now) (g.A.Item.tree c.in_ok-first.first) c.in_ok-rest.ensures.reads.0
    c.in_ok-first.ensures.reads c.in_ok-rest.ensures.reads.1)
    (enclosed_fails (is_sign Sign.Semicolon) g.B.Item.reading (views c.in_ok-rest.rest.now) c.in_err-second.field-0.0 c.in_err-second.ensures.reads))

pub returns-in_err-rest-2-clause-reads : goal.returns-in_err-rest-2-clause-reads
returns-in_err-rest-2-clause-reads g c =
    let p = err_from_is_err_and c.from_residual-in_err-rest-2.result c.from_residual-in_err-rest-2.ensures.1 in
    rw (p.1, p.2) (both_fails_after (enclosed (is_sign c.args.middle) g.A.Item.reading) (enclosed (is_sign Sign.Semicolon) g.B.Item.reading) (views c.args.tokens.now)
    (g.A.Item.tree c.in_ok-first.first) (views c.in_ok-rest.rest.now) c.in_err-rest-2.field-0.0
    (enclosed_found (is_sign c.args.middle) g.A.Item.reading (views c.args.tokens.now) (views c.in_ok-first.rest.now) (views c.in_ok-rest.rest.now) (g.A.Item.tree c.in_ok-first.first) c.in_ok-rest.ensures.reads.0
    c.in_ok-first.ensures.reads c.in_ok-rest.ensures.reads.1)
    (enclosed_fails_after (is_sign Sign.Semicolon) g.B.Item.reading (views c.in_ok-rest.rest.now) (views c.in_ok-second.rest.now) (g.B.Item.tree c.in_ok-second.second) c.in_err-rest-2.field-0.0
    c.in_ok-second.ensures.reads c.in_err-rest-2.ensures.reads))

pub returns-clause-reads : goal.returns-clause-reads
returns-clause-reads g c =
    both_found (enclosed (is_sign c.args.middle) g.A.Item.reading) (enclosed (is_sign Sign.Semicolon) g.B.Item.reading) (views c.args.tokens.now)
    (g.A.Item.tree c.in_ok-first.first) (views c.in_ok-rest.rest.now) (g.B.Item.tree c.in_ok-second.second) (views c.in_ok-rest-2.rest.now)
    (enclosed_found (is_sign c.args.middle) g.A.Item.reading (views c.args.tokens.now) (views c.in_ok-first.rest.now) (views c.in_ok-rest.rest.now) (g.A.Item.tree c.in_ok-first.first) c.in_ok-rest.ensures.reads.0
    c.in_ok-first.ensures.reads c.in_ok-rest.ensures.reads.1)
    (enclosed_found (is_sign Sign.Semicolon) g.B.Item.reading (views c.in_ok-rest.rest.now) (views c.in_ok-second.rest.now) (views c.in_ok-rest-2.rest.now) (g.B.Item.tree c.in_ok-second.second) c.in_ok-rest-2.ensures.reads.0
    c.in_ok-second.ensures.reads c.in_ok-rest-2.ensures.reads.1)
