use Rattle.std.proofs.lemmas.Int.{ints}
use Rattle.std.proofs.Common.{◌≡◌, ℕ, rules, SFits, w32, to_z, of_z, ◌-◌, ◌≤◌, length, map, sym, ◌∙◌, ap, arith, ⊎_elim}
use Rattle.std.proofs.lemmas.Result.{err_from_is_err_and}
use Rattle.smv_lexer.specs.declared.keyword.Keyword.{Keyword}
use Rattle.smv_lexer.specs.declared.sign.Sign.{Sign}
use Rattle.smv_lexer.specs.Text.{Placed}
use Rattle.smv_lexer.specs.View as tokens
use Rattle.smv_lexer.specs.View.{views}
use Rattle.reader_laws.specs.Reading.{accept, enclosed, both}
use Rattle.reader_laws.specs.Reading.Reading.{found}
use Rattle.reader_laws.proofs.Readers.{found-then}
use Rattle.smv_parser.specs.declared.openings.PlainLead.{PlainLead}
use Rattle.smv_parser.specs.declared.openings.TypeLead.{TypeLead}
use Rattle.smv_parser.specs.Openings.{constant_of}
use Rattle.smv_parser.specs.Program.{PlainForm, plain_on}
use Rattle.smv_parser.specs.ProgramReading.{commas, read_plain, read_range}
use Rattle.smv_parser.specs.ProgramView as view
use Rattle.smv_parser.specs.Tests.{is_key, is_sign}
use Rattle.smv_parser.proofs.Codes.{Fails-then, both_fails, both_fails_after, both_found, enclosed_fails, enclosed_fails_after, enclosed_found, length-views}
use Rattle.smv_parser.proofs.TypeCodes.{array_deep, array_is, boolean_is, ends_is, enumeration_is, name_no_plain, other_no_plain, plain_empty, process_no_plain}
use Rattle.smv_parser.proofs.types.+read_plain.Goals as goal

pub returns-in_default-clause-reads : goal.returns-in_default-clause-reads
returns-in_default-clause-reads t c = plain_empty c.args.most (views c.args.tokens.now) c.requires (length-views c.args.tokens.now ∙ c.in_default.ensures.cases)

pub returns-in-Plain-Boolean-clause-reads : goal.returns-in-Plain-Boolean-clause-reads
returns-in-Plain-Boolean-clause-reads t c = boolean_is c.args.most (views c.args.tokens.now) (tokens.view c.in-Some.token.now) (views c.in-Some.rest.now) c.requires (ap views c.in-Some.ensures.cases.0) (sym c.token_type.ensures ∙ c.in-Plain-Boolean.is ∙ ap TypeLead.Plain c.in-Plain-Boolean.field-0-is)

pub returns-in_err-constants-in-Plain-Enumeration-clause-reads : goal.returns-in_err-constants-in-Plain-Enumeration-clause-reads
returns-in_err-constants-in-Plain-Enumeration-clause-reads t c =
    let q = enumeration_is c.args.most (views c.args.tokens.now) (tokens.view c.in-Some.token.now) (views c.in-Some.rest.now) c.requires (ap views c.in-Some.ensures.cases.0) (sym c.token_type.ensures ∙ c.in-Plain-Enumeration.is ∙ ap TypeLead.Plain c.in-Plain-Enumeration.field-0-is) in
    let p = err_from_is_err_and c.from_residual.result c.from_residual.ensures.1 in
    rw (p.1, p.2) (rw q (Fails-then c.in_err-constants-in-Plain-Enumeration.field-0.0 _ _ (enclosed_fails (is_sign Sign.CloseBrace) (commas (accept constant_of)) (views c.in-Some.rest.now) c.in_err-constants-in-Plain-Enumeration.field-0.0 c.in_err-constants-in-Plain-Enumeration.ensures.reads)))

pub returns-in_err-rest-in-Plain-Enumeration-clause-reads : goal.returns-in_err-rest-in-Plain-Enumeration-clause-reads
returns-in_err-rest-in-Plain-Enumeration-clause-reads t c =
    let q = enumeration_is c.args.most (views c.args.tokens.now) (tokens.view c.in-Some.token.now) (views c.in-Some.rest.now) c.requires (ap views c.in-Some.ensures.cases.0) (sym c.token_type.ensures ∙ c.in-Plain-Enumeration.is ∙ ap TypeLead.Plain c.in-Plain-Enumeration.field-0-is) in
    let p = err_from_is_err_and c.from_residual-in_err-rest-in-Plain-Enumeration.result c.from_residual-in_err-rest-in-Plain-Enumeration.ensures.1 in
    rw (p.1, p.2) (rw q (Fails-then c.in_err-rest-in-Plain-Enumeration.field-0.0 _ _ (enclosed_fails_after (is_sign Sign.CloseBrace) (commas (accept constant_of)) (views c.in-Some.rest.now) (views c.in_ok-constants-in-Plain-Enumeration.rest.now) (map view.constant c.in_ok-constants-in-Plain-Enumeration.constants.items) c.in_err-rest-in-Plain-Enumeration.field-0.0
    c.in_ok-constants-in-Plain-Enumeration.ensures.reads c.in_err-rest-in-Plain-Enumeration.ensures.reads)))

pub returns-in_ok-rest-in-Plain-Enumeration-clause-reads : goal.returns-in_ok-rest-in-Plain-Enumeration-clause-reads
returns-in_ok-rest-in-Plain-Enumeration-clause-reads t c =
    enumeration_is c.args.most (views c.args.tokens.now) (tokens.view c.in-Some.token.now) (views c.in-Some.rest.now) c.requires (ap views c.in-Some.ensures.cases.0) (sym c.token_type.ensures ∙ c.in-Plain-Enumeration.is ∙ ap TypeLead.Plain c.in-Plain-Enumeration.field-0-is)
    ∙ found-then _ _ _ _ (enclosed_found (is_sign Sign.CloseBrace) (commas (accept constant_of)) (views c.in-Some.rest.now) (views c.in_ok-constants-in-Plain-Enumeration.rest.now) (views c.in_ok-rest-in-Plain-Enumeration.rest.now) (map view.constant c.in_ok-constants-in-Plain-Enumeration.constants.items)
    c.in_ok-rest-in-Plain-Enumeration.ensures.reads.0 c.in_ok-constants-in-Plain-Enumeration.ensures.reads c.in_ok-rest-in-Plain-Enumeration.ensures.reads.1)

pub returns-in_err-low-in-Plain-Range-clause-reads : goal.returns-in_err-low-in-Plain-Range-clause-reads
returns-in_err-low-in-Plain-Range-clause-reads t c =
    let q = ends_is c.args.most (views c.args.tokens.now) (tokens.view c.in-Some.token.now) (views c.in-Some.rest.now) c.requires (ap views c.in-Some.ensures.cases.0) (sym c.token_type.ensures ∙ c.in-Plain-Range.is ∙ ap TypeLead.Plain c.in-Plain-Range.field-0-is) in
    let p = err_from_is_err_and c.from_residual-in_err-low-in-Plain-Range.result c.from_residual-in_err-low-in-Plain-Range.ensures.1 in
    rw (p.1, p.2) (rw q (Fails-then c.in_err-low-in-Plain-Range.field-0.0 _ _ c.in_err-low-in-Plain-Range.ensures.reads))

pub returns-in_ok-low-in-Plain-Range-clause-reads : goal.returns-in_ok-low-in-Plain-Range-clause-reads
returns-in_ok-low-in-Plain-Range-clause-reads t c =
    let f : SFits w32 c.in_ok-low-in-Plain-Range.low = search rules in
    let g : SFits w32 c.in_ok-low-in-Plain-Range.high = search rules in
    let low : to_z w32 (of_z w32 c.in_ok-low-in-Plain-Range.low) ≡ c.in_ok-low-in-Plain-Range.low = omega (arith, ints) in
    let high : to_z w32 (of_z w32 c.in_ok-low-in-Plain-Range.high) ≡ c.in_ok-low-in-Plain-Range.high = omega (arith, ints) in
    rw (low, high) (ends_is c.args.most (views c.args.tokens.now) (tokens.view c.in-Some.token.now) (views c.in-Some.rest.now) c.requires (ap views c.in-Some.ensures.cases.0) (sym c.token_type.ensures ∙ c.in-Plain-Range.is ∙ ap TypeLead.Plain c.in-Plain-Range.field-0-is)
    ∙ found-then _ _ _ _ c.in_ok-low-in-Plain-Range.ensures.reads)

pub returns-then-most-eq1-clause-reads : goal.returns-then-most-eq1-clause-reads
returns-then-most-eq1-clause-reads t c = array_deep c.args.most (views c.args.tokens.now) (tokens.view c.in-Some.token.now) (views c.in-Some.rest.now) c.requires (ap views c.in-Some.ensures.cases.0) (sym c.token_type.ensures ∙ c.in-Plain-Array.is ∙ ap TypeLead.Plain c.in-Plain-Array.field-0-is) c.if-most-eq1.true (length c.args.tokens.now) (sym (length-views c.args.tokens.now))

pub returns-in_err-low-in-Plain-Array-clause-reads : goal.returns-in_err-low-in-Plain-Array-clause-reads
returns-in_err-low-in-Plain-Array-clause-reads t c =
    let q = array_is c.args.most (views c.args.tokens.now) (tokens.view c.in-Some.token.now) (views c.in-Some.rest.now) c.requires (ap views c.in-Some.ensures.cases.0) (sym c.token_type.ensures ∙ c.in-Plain-Array.is ∙ ap TypeLead.Plain c.in-Plain-Array.field-0-is) (omega (arith, c.requires, c.if-most-eq1.false)) in
    let p = err_from_is_err_and c.from_residual-in_err-low-in-Plain-Array.result c.from_residual-in_err-low-in-Plain-Array.ensures.1 in
    rw (p.1, p.2) (rw q (Fails-then c.in_err-low-in-Plain-Array.field-0.0 _ _ (both_fails (enclosed (is_key Keyword.Of) read_range) (read_plain (c.args.most - 1)) (views c.in-Some.rest.now) c.in_err-low-in-Plain-Array.field-0.0 (enclosed_fails (is_key Keyword.Of) read_range (views c.in-Some.rest.now) c.in_err-low-in-Plain-Array.field-0.0 c.in_err-low-in-Plain-Array.ensures.reads))))

pub returns-in_err-rest-in-Plain-Array-clause-reads : goal.returns-in_err-rest-in-Plain-Array-clause-reads
returns-in_err-rest-in-Plain-Array-clause-reads t c =
    let q = array_is c.args.most (views c.args.tokens.now) (tokens.view c.in-Some.token.now) (views c.in-Some.rest.now) c.requires (ap views c.in-Some.ensures.cases.0) (sym c.token_type.ensures ∙ c.in-Plain-Array.is ∙ ap TypeLead.Plain c.in-Plain-Array.field-0-is) (omega (arith, c.requires, c.if-most-eq1.false)) in
    let p = err_from_is_err_and c.from_residual-in_err-rest-in-Plain-Array.result c.from_residual-in_err-rest-in-Plain-Array.ensures.1 in
    rw (p.1, p.2) (rw q (Fails-then c.in_err-rest-in-Plain-Array.field-0.0 _ _ (both_fails (enclosed (is_key Keyword.Of) read_range) (read_plain (c.args.most - 1)) (views c.in-Some.rest.now) c.in_err-rest-in-Plain-Array.field-0.0
    (enclosed_fails_after (is_key Keyword.Of) read_range (views c.in-Some.rest.now) (views c.in_ok-low-in-Plain-Array.rest.now) (c.in_ok-low-in-Plain-Array.low, c.in_ok-low-in-Plain-Array.high) c.in_err-rest-in-Plain-Array.field-0.0 c.in_ok-low-in-Plain-Array.ensures.reads c.in_err-rest-in-Plain-Array.ensures.reads))))

pub returns-in_err-element-in-Plain-Array-clause-reads : goal.returns-in_err-element-in-Plain-Array-clause-reads
returns-in_err-element-in-Plain-Array-clause-reads t c =
    let q = array_is c.args.most (views c.args.tokens.now) (tokens.view c.in-Some.token.now) (views c.in-Some.rest.now) c.requires (ap views c.in-Some.ensures.cases.0) (sym c.token_type.ensures ∙ c.in-Plain-Array.is ∙ ap TypeLead.Plain c.in-Plain-Array.field-0-is) (omega (arith, c.requires, c.if-most-eq1.false)) in
    let p = err_from_is_err_and c.from_residual-in_err-element-in-Plain-Array.result c.from_residual-in_err-element-in-Plain-Array.ensures.1 in
    rw (p.1, p.2) (rw q (Fails-then c.in_err-element-in-Plain-Array.field-0.0 _ _ (both_fails_after (enclosed (is_key Keyword.Of) read_range) (read_plain (c.args.most - 1)) (views c.in-Some.rest.now) (c.in_ok-low-in-Plain-Array.low, c.in_ok-low-in-Plain-Array.high) (views c.in_ok-rest-in-Plain-Array.rest.now) c.in_err-element-in-Plain-Array.field-0.0
    (enclosed_found (is_key Keyword.Of) read_range (views c.in-Some.rest.now) (views c.in_ok-low-in-Plain-Array.rest.now) (views c.in_ok-rest-in-Plain-Array.rest.now) (c.in_ok-low-in-Plain-Array.low, c.in_ok-low-in-Plain-Array.high) c.in_ok-rest-in-Plain-Array.ensures.reads.0 c.in_ok-low-in-Plain-Array.ensures.reads c.in_ok-rest-in-Plain-Array.ensures.reads.1)
    c.in_err-element-in-Plain-Array.ensures.reads)))

pub returns-in_ok-new-in-Plain-Array-clause-reads : goal.returns-in_ok-new-in-Plain-Array-clause-reads
returns-in_ok-new-in-Plain-Array-clause-reads t c =
    array_is c.args.most (views c.args.tokens.now) (tokens.view c.in-Some.token.now) (views c.in-Some.rest.now) c.requires (ap views c.in-Some.ensures.cases.0) (sym c.token_type.ensures ∙ c.in-Plain-Array.is ∙ ap TypeLead.Plain c.in-Plain-Array.field-0-is) (omega (arith, c.requires, c.if-most-eq1.false))
    ∙ found-then _ _ _ _ (both_found (enclosed (is_key Keyword.Of) read_range) (read_plain (c.args.most - 1)) (views c.in-Some.rest.now) (c.in_ok-low-in-Plain-Array.low, c.in_ok-low-in-Plain-Array.high) (views c.in_ok-rest-in-Plain-Array.rest.now) (view.plain c.in_ok-element-in-Plain-Array.element) (views c.in_ok-element-in-Plain-Array.rest.now)
    (enclosed_found (is_key Keyword.Of) read_range (views c.in-Some.rest.now) (views c.in_ok-low-in-Plain-Array.rest.now) (views c.in_ok-rest-in-Plain-Array.rest.now) (c.in_ok-low-in-Plain-Array.low, c.in_ok-low-in-Plain-Array.high) c.in_ok-rest-in-Plain-Array.ensures.reads.0 c.in_ok-low-in-Plain-Array.ensures.reads c.in_ok-rest-in-Plain-Array.ensures.reads.1)
    c.in_ok-element-in-Plain-Array.ensures.reads)
    ∙ ap (λ (e : _). found (plain_on c.in-Some.token.now.line (PlainForm.array c.in_ok-low-in-Plain-Array.low c.in_ok-low-in-Plain-Array.high (view.plain e))) (views c.in_ok-element-in-Plain-Array.rest.now)) (sym c.in_ok-new-in-Plain-Array.ensures.ok)

pub returns-in-Process : goal.returns-in-Process
returns-in-Process t c = record {
  reads = ⊎_elim (λ h. process_no_plain c.args.most (views c.args.tokens.now) (tokens.view c.in-Some.token.now) (views c.in-Some.rest.now) c.requires (ap views c.in-Some.ensures.cases.0) (sym c.token_type.ensures ∙ h) (length c.args.tokens.now) (sym (length-views c.args.tokens.now)))
      (⊎_elim (λ h. name_no_plain c.args.most (views c.args.tokens.now) (tokens.view c.in-Some.token.now) (views c.in-Some.rest.now) c.requires (ap views c.in-Some.ensures.cases.0) (sym c.token_type.ensures ∙ h) (length c.args.tokens.now) (sym (length-views c.args.tokens.now)))
      (λ h. other_no_plain c.args.most (views c.args.tokens.now) (tokens.view c.in-Some.token.now) (views c.in-Some.rest.now) c.requires (ap views c.in-Some.ensures.cases.0) (sym c.token_type.ensures ∙ h) (length c.args.tokens.now) (sym (length-views c.args.tokens.now)))) c.in-Process.is;
  shorter = tt;
}
