use Rattle.std.proofs.lemmas.Int.{ints}
use Rattle.std.proofs.Common.{◌≡◌, ℕ, ℤ, rules, arith, SFits, w32, to_z, of_z, List, Bool, Option, Some, length, sym, ◌∙◌, ap}
use Rattle.smv_lexer.specs.declared.token.TokenKind.{TokenKind}
use Rattle.smv_lexer.specs.View as tokens
use Rattle.smv_lexer.specs.View.{views}
use Rattle.reader_laws.specs.Reading.Reading.{found}
use Rattle.smv_parser.specs.Program.{Constant}
use Rattle.smv_parser.specs.Openings.{constant_in, constant_of, number_constant, on_its_line, truth_in}
use Rattle.smv_parser.specs.Tests.{natural}
use Rattle.smv_parser.specs.ProgramReading.{lined}
use Rattle.smv_parser.proofs.Codes.{length-views}
use Rattle.smv_parser.proofs.ItemCodes.{accept_empty, accept_found, accept_none}
use Rattle.smv_parser.proofs.types.read_constant.Goals as goal

pub returns-in_default-clause-reads : goal.returns-in_default-clause-reads
returns-in_default-clause-reads c = accept_empty constant_of (views c.args.tokens.now) (length-views c.args.tokens.now ∙ c.in_default.ensures.cases)

pub returns-in_ok-copy-in-Word-clause-reads : goal.returns-in_ok-copy-in-Word-clause-reads
returns-in_ok-copy-in-Word-clause-reads c =
    accept_found constant_of (views c.args.tokens.now) (tokens.view c.in-Some.token.now) (views c.in-Some.rest.now) (lined c.in-Some.token.now.line (Constant.name c.in_ok-copy-in-Word.field-0)) (ap views c.in-Some.ensures.cases.0)
    (ap (λ (k : TokenKind). on_its_line c.in-Some.token.now.line (constant_in (tokens.kind k))) c.in-Word.is
    ∙ ap (λ (n : List ℕ). Some (lined c.in-Some.token.now.line (Constant.name n))) (sym c.in_ok-copy-in-Word.ensures))

pub returns-in-Some-natural-clause-reads : goal.returns-in-Some-natural-clause-reads
returns-in-Some-natural-clause-reads c =
    let f : SFits w32 c.in-Number.value = search rules in
    let same : to_z w32 (of_z w32 c.in-Number.value) ≡ c.in-Number.value = omega (arith, ints) in
    accept_found constant_of (views c.args.tokens.now) (tokens.view c.in-Some.token.now) (views c.in-Some.rest.now) (lined c.in-Some.token.now.line (Constant.number c.in-Some-natural.value)) (ap views c.in-Some.ensures.cases.0)
    (ap (λ (k : TokenKind). on_its_line c.in-Some.token.now.line (constant_in (tokens.kind k))) c.in-Number.is
    ∙ ap (λ (o : Option ℕ). on_its_line c.in-Some.token.now.line (number_constant o)) (ap natural (sym same) ∙ sym c.natural.ensures.value ∙ c.in-Some-natural.is))

pub returns-in-None-clause-reads : goal.returns-in-None-clause-reads
returns-in-None-clause-reads c =
    let f : SFits w32 c.in-Number.value = search rules in
    let same : to_z w32 (of_z w32 c.in-Number.value) ≡ c.in-Number.value = omega (arith, ints) in
    accept_none constant_of (views c.args.tokens.now) (tokens.view c.in-Some.token.now) (views c.in-Some.rest.now) (ap views c.in-Some.ensures.cases.0)
    (ap (λ (k : TokenKind). on_its_line c.in-Some.token.now.line (constant_in (tokens.kind k))) c.in-Number.is
    ∙ ap (λ (o : Option ℕ). on_its_line c.in-Some.token.now.line (number_constant o)) (ap natural (sym same) ∙ sym c.natural.ensures.value ∙ c.in-None.is))
    (length c.args.tokens.now) (sym (length-views c.args.tokens.now))

pub returns-in-Some-key_truth-clause-reads : goal.returns-in-Some-key_truth-clause-reads
returns-in-Some-key_truth-clause-reads c =
    accept_found constant_of (views c.args.tokens.now) (tokens.view c.in-Some.token.now) (views c.in-Some.rest.now) (lined c.in-Some.token.now.line (Constant.truth c.in-Some-key_truth.value)) (ap views c.in-Some.ensures.cases.0)
    (ap (λ (k : TokenKind). on_its_line c.in-Some.token.now.line (constant_in (tokens.kind k))) c.in-Key.is
    ∙ ap (λ (o : Option Bool). on_its_line c.in-Some.token.now.line (truth_in o)) (sym c.key_truth.ensures ∙ c.in-Some-key_truth.is))

pub returns-in-None-key_truth-clause-reads : goal.returns-in-None-key_truth-clause-reads
returns-in-None-key_truth-clause-reads c =
    accept_none constant_of (views c.args.tokens.now) (tokens.view c.in-Some.token.now) (views c.in-Some.rest.now) (ap views c.in-Some.ensures.cases.0)
    (ap (λ (k : TokenKind). on_its_line c.in-Some.token.now.line (constant_in (tokens.kind k))) c.in-Key.is
    ∙ ap (λ (o : Option Bool). on_its_line c.in-Some.token.now.line (truth_in o)) (sym c.key_truth.ensures ∙ c.in-None-key_truth.is))
    (length c.args.tokens.now) (sym (length-views c.args.tokens.now))

pub returns-in-Sign-clause-reads : goal.returns-in-Sign-clause-reads
returns-in-Sign-clause-reads c =
    accept_none constant_of (views c.args.tokens.now) (tokens.view c.in-Some.token.now) (views c.in-Some.rest.now) (ap views c.in-Some.ensures.cases.0)
    (ap (λ (k : TokenKind). on_its_line c.in-Some.token.now.line (constant_in (tokens.kind k))) c.in-Sign.is)
    (length c.args.tokens.now) (sym (length-views c.args.tokens.now))
