use Rattle.std.proofs.Common.{◌≡◌, ℤ, sym, ◌∙◌, ap}
use Rattle.std.proofs.lemmas.Result.{err_from_is_err_and}
use Rattle.smv_lexer.specs.declared.sign.Sign.{Sign}
use Rattle.smv_lexer.specs.View.{views}
use Rattle.reader_laws.specs.Reading.{accept}
use Rattle.reader_laws.specs.Reading.Reading.{found}
use Rattle.reader_laws.proofs.Readers.{found-then}
use Rattle.smv_parser.specs.Tests.{is_sign, number_of}
use Rattle.smv_parser.proofs.Codes.{Fails-then, headed_fails, headed_is}
use Rattle.smv_parser.proofs.Signed.{small_value, small_negated}
use Rattle.smv_parser.proofs.TypeCodes.{minus_end_is, number_end_is}
use Rattle.smv_parser.proofs.types.read_end.Goals as goal

pub returns-in_err-rest-clause-reads : goal.returns-in_err-rest-clause-reads
returns-in_err-rest-clause-reads c =
    let q = minus_end_is (views c.args.tokens.now) (sym c.if-begins_with_sign.ensures) in
    let p = err_from_is_err_and c.from_residual.result c.from_residual.ensures.1 in
    rw (p.1, p.2) (rw q (Fails-then c.in_err-rest.field-0.0 _ _ (headed_fails (is_sign Sign.Minus) (accept number_of) (views c.args.tokens.now) c.in_err-rest.field-0.0 c.in_err-rest.ensures.reads)))

pub returns-in_err-value-clause-reads : goal.returns-in_err-value-clause-reads
returns-in_err-value-clause-reads c =
    let q = minus_end_is (views c.args.tokens.now) (sym c.if-begins_with_sign.ensures) in
    let w = headed_is (is_sign Sign.Minus) (accept number_of) (views c.args.tokens.now) (views c.in_ok-rest.rest.now) c.in_ok-rest.ensures.reads.0 c.in_ok-rest.ensures.reads.1 in
    let p = err_from_is_err_and c.from_residual-in_err-value.result c.from_residual-in_err-value.ensures.1 in
    rw (p.1, p.2) (rw (q, w) (Fails-then c.in_err-value.field-0.0 _ _ c.in_err-value.ensures.reads))

pub returns-then-begins_with_sign-clause-reads : goal.returns-then-begins_with_sign-clause-reads
returns-then-begins_with_sign-clause-reads c =
    minus_end_is (views c.args.tokens.now) (sym c.if-begins_with_sign.ensures)
    ∙ found-then _ _ _ _ (headed_is (is_sign Sign.Minus) (accept number_of) (views c.args.tokens.now) (views c.in_ok-rest.rest.now) c.in_ok-rest.ensures.reads.0 c.in_ok-rest.ensures.reads.1 ∙ c.in_ok-value.ensures.reads)
    ∙ ap (λ (z : ℤ). found z (views c.in_ok-value.rest.now)) (sym (small_negated c.in_ok-value.value c.in_ok-value.ensures.small))

pub returns-in_err-value-2-clause-reads : goal.returns-in_err-value-2-clause-reads
returns-in_err-value-2-clause-reads c =
    let q = number_end_is (views c.args.tokens.now) (sym c.if-begins_with_sign.ensures) in
    let p = err_from_is_err_and c.from_residual-in_err-value-2.result c.from_residual-in_err-value-2.ensures.1 in
    rw (p.1, p.2) (rw q (Fails-then c.in_err-value-2.field-0.0 _ _ c.in_err-value-2.ensures.reads))

pub returns-clause-reads : goal.returns-clause-reads
returns-clause-reads c =
    number_end_is (views c.args.tokens.now) (sym c.if-begins_with_sign.ensures)
    ∙ found-then _ _ _ _ c.in_ok-value-2.ensures.reads
    ∙ ap (λ (z : ℤ). found z (views c.in_ok-value-2.rest.now)) (sym (small_value c.in_ok-value-2.value c.in_ok-value-2.ensures.small))
