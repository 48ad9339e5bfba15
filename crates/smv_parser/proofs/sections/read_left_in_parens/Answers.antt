use Rattle.std.proofs.Common.{◌≡◌, ℕ, List, length, map, sym, ◌∙◌, ap}
use Rattle.std.proofs.lemmas.Result.{err_from_is_err_and}
use Rattle.smv_lexer.specs.View as tokens
use Rattle.smv_lexer.specs.View.{views}
use Rattle.reader_laws.proofs.Readers.{found-then}
use Rattle.smv_parser.specs.Programs.{greatest_depth}
use Rattle.smv_parser.proofs.Codes.{Fails-then, enclosed_fails, enclosed_fails_after, enclosed_found, headed_fails, headed_is}
use Rattle.smv_lexer.specs.declared.sign.Sign.{Sign}
use Rattle.reader_laws.specs.Reading.{enclosed}
use Rattle.smv_parser.specs.Reading.{read, read_path}
use Rattle.smv_parser.specs.Tests.{is_sign}
use Rattle.smv_parser.specs.View.{path_of}
use Rattle.smv_parser.proofs.SectionCodes.{left_in_parens}
use Rattle.smv_parser.proofs.sections.read_left_in_parens.Goals as goal

pub returns-in_err-rest-clause-reads : goal.returns-in_err-rest-clause-reads
returns-in_err-rest-clause-reads c =
    let q = left_in_parens c.args.kind c.args.line (views c.args.tokens.now) in
    let p = err_from_is_err_and c.from_residual.result c.from_residual.ensures.1 in
    rw (p.1, p.2) (rw q (Fails-then c.in_err-rest.field-0.0 _ _ (headed_fails (is_sign Sign.OpenParen) (enclosed (is_sign Sign.CloseParen) (read_path (read 255) 255)) (views c.args.tokens.now) c.in_err-rest.field-0.0 c.in_err-rest.ensures.reads)))

pub returns-in_err-whole-clause-reads : goal.returns-in_err-whole-clause-reads
returns-in_err-whole-clause-reads c =
    let q = left_in_parens c.args.kind c.args.line (views c.args.tokens.now) in
    let w = headed_is (is_sign Sign.OpenParen) (enclosed (is_sign Sign.CloseParen) (read_path (read 255) 255)) (views c.args.tokens.now) (views c.in_ok-rest.rest.now) c.in_ok-rest.ensures.reads.0 c.in_ok-rest.ensures.reads.1 in
    let p = err_from_is_err_and c.from_residual-in_err-whole.result c.from_residual-in_err-whole.ensures.1 in
    rw (p.1, p.2) (rw (q, w) (Fails-then c.in_err-whole.field-0.0 _ _
    (enclosed_fails (is_sign Sign.CloseParen) (read_path (read 255) 255) (views c.in_ok-rest.rest.now) c.in_err-whole.field-0.0 c.in_err-whole.ensures.reads)))

pub returns-in_err-rest-2-clause-reads : goal.returns-in_err-rest-2-clause-reads
returns-in_err-rest-2-clause-reads c =
    let q = left_in_parens c.args.kind c.args.line (views c.args.tokens.now) in
    let w = headed_is (is_sign Sign.OpenParen) (enclosed (is_sign Sign.CloseParen) (read_path (read 255) 255)) (views c.args.tokens.now) (views c.in_ok-rest.rest.now) c.in_ok-rest.ensures.reads.0 c.in_ok-rest.ensures.reads.1 in
    let p = err_from_is_err_and c.from_residual-in_err-rest-2.result c.from_residual-in_err-rest-2.ensures.1 in
    rw (p.1, p.2) (rw (q, w) (Fails-then c.in_err-rest-2.field-0.0 _ _
    (enclosed_fails_after (is_sign Sign.CloseParen) (read_path (read 255) 255) (views c.in_ok-rest.rest.now) (views c.in_ok-whole.rest.now) (path_of c.in_ok-whole.whole.path) c.in_err-rest-2.field-0.0
    c.in_ok-whole.ensures.reads c.in_err-rest-2.ensures.reads)))

pub returns-clause-reads : goal.returns-clause-reads
returns-clause-reads c =
    left_in_parens c.args.kind c.args.line (views c.args.tokens.now)
    ∙ found-then _ _ _ _ (headed_is (is_sign Sign.OpenParen) (enclosed (is_sign Sign.CloseParen) (read_path (read 255) 255)) (views c.args.tokens.now) (views c.in_ok-rest.rest.now) c.in_ok-rest.ensures.reads.0 c.in_ok-rest.ensures.reads.1
    ∙ enclosed_found (is_sign Sign.CloseParen) (read_path (read 255) 255) (views c.in_ok-rest.rest.now) (views c.in_ok-whole.rest.now) (views c.in_ok-rest-2.rest.now) (path_of c.in_ok-whole.whole.path)
    c.in_ok-rest-2.ensures.reads.0 c.in_ok-whole.ensures.reads c.in_ok-rest-2.ensures.reads.1)
