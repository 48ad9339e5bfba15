use Rattle.std.proofs.lemmas.Int.{ints}
use Rattle.std.proofs.Common.{rules, arith, SFits, w32, to_z, of_z, ◌≡◌, ◌∙◌}
use Rattle.std.proofs.lemmas.Result.{err_from_is_err_and}
use Rattle.smv_lexer.specs.declared.sign.Sign.{Sign}
use Rattle.smv_lexer.specs.View.{views}
use Rattle.reader_laws.specs.Reading.{enclosed}
use Rattle.smv_parser.specs.Tests.{is_sign}
use Rattle.smv_parser.specs.ProgramReading.{read_end}
use Rattle.smv_parser.proofs.Codes.{both_fails, both_fails_after, both_found, enclosed_fails, enclosed_fails_after, enclosed_found}
use Rattle.smv_parser.proofs.TypeCodes.{ends_are}
use Rattle.smv_parser.proofs.types.read_ends.Goals as goal

pub returns-in_err-low-clause-reads : goal.returns-in_err-low-clause-reads
returns-in_err-low-clause-reads c =
    let q = ends_are (views c.args.tokens.now) in
    let p = err_from_is_err_and c.from_residual.result c.from_residual.ensures.1 in
    rw (p.1, p.2) (rw q (both_fails (enclosed (is_sign Sign.Range) read_end) read_end (views c.args.tokens.now) c.in_err-low.field-0.0
    (enclosed_fails (is_sign Sign.Range) read_end (views c.args.tokens.now) c.in_err-low.field-0.0 c.in_err-low.ensures.reads)))

pub returns-in_err-rest-clause-reads : goal.returns-in_err-rest-clause-reads
returns-in_err-rest-clause-reads c =
    let q = ends_are (views c.args.tokens.now) in
    let p = err_from_is_err_and c.from_residual-in_err-rest.result c.from_residual-in_err-rest.ensures.1 in
    rw (p.1, p.2) (rw q (both_fails (enclosed (is_sign Sign.Range) read_end) read_end (views c.args.tokens.now) c.in_err-rest.field-0.0
    (enclosed_fails_after (is_sign Sign.Range) read_end (views c.args.tokens.now) (views c.in_ok-low.rest.now) c.in_ok-low.low c.in_err-rest.field-0.0 c.in_ok-low.ensures.reads c.in_err-rest.ensures.reads)))

pub returns-in_err-high-clause-reads : goal.returns-in_err-high-clause-reads
returns-in_err-high-clause-reads c =
    let q = ends_are (views c.args.tokens.now) in
    let p = err_from_is_err_and c.from_residual-in_err-high.result c.from_residual-in_err-high.ensures.1 in
    rw (p.1, p.2) (rw q (both_fails_after (enclosed (is_sign Sign.Range) read_end) read_end (views c.args.tokens.now) c.in_ok-low.low (views c.in_ok-rest.rest.now) c.in_err-high.field-0.0
    (enclosed_found (is_sign Sign.Range) read_end (views c.args.tokens.now) (views c.in_ok-low.rest.now) (views c.in_ok-rest.rest.now) c.in_ok-low.low c.in_ok-rest.ensures.reads.0 c.in_ok-low.ensures.reads c.in_ok-rest.ensures.reads.1)
    c.in_err-high.ensures.reads))

pub returns-clause-reads : goal.returns-clause-reads
returns-clause-reads c =
    let f : SFits w32 c.in_ok-low.low = search rules in
    let g : SFits w32 c.in_ok-high.high = search rules in
    let low : to_z w32 (of_z w32 c.in_ok-low.low) ≡ c.in_ok-low.low = omega (arith, ints) in
    let high : to_z w32 (of_z w32 c.in_ok-high.high) ≡ c.in_ok-high.high = omega (arith, ints) in
    rw (low, high) (
    ends_are (views c.args.tokens.now)
    ∙ both_found (enclosed (is_sign Sign.Range) read_end) read_end (views c.args.tokens.now) c.in_ok-low.low (views c.in_ok-rest.rest.now) c.in_ok-high.high (views c.in_ok-high.rest.now)
    (enclosed_found (is_sign Sign.Range) read_end (views c.args.tokens.now) (views c.in_ok-low.rest.now) (views c.in_ok-rest.rest.now) c.in_ok-low.low c.in_ok-rest.ensures.reads.0 c.in_ok-low.ensures.reads c.in_ok-rest.ensures.reads.1)
    c.in_ok-high.ensures.reads)
