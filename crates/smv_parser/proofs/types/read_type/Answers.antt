use Rattle.std.proofs.Common.{◌≡◌, ℕ, length, sym, ◌∙◌, ap}
use Rattle.std.proofs.lemmas.Result.{err_from_is_err_and}
use Rattle.smv_lexer.specs.View as tokens
use Rattle.smv_lexer.specs.View.{views}
use Rattle.reader_laws.proofs.Readers.{found-then}
use Rattle.smv_parser.specs.Programs.{greatest_depth}
use Rattle.smv_parser.proofs.Codes.{Fails-then, length-views}
use Rattle.smv_parser.proofs.TypeCodes.{name_type_is, other_no_type, plain_type_is, process_type_is, type_empty}
use Rattle.smv_parser.proofs.types.read_type.Goals as goal

pub returns-in_default-clause-reads : goal.returns-in_default-clause-reads
returns-in_default-clause-reads c = type_empty greatest_depth (views c.args.tokens.now) (length-views c.args.tokens.now ∙ c.in_default.ensures.cases)

pub returns-in_err-plain-in-Plain-clause-reads : goal.returns-in_err-plain-in-Plain-clause-reads
returns-in_err-plain-in-Plain-clause-reads c =
    let q = plain_type_is greatest_depth (views c.args.tokens.now) (tokens.view c.in-Some.token.now) (views c.in-Some.rest.now) (ap views c.in-Some.ensures.cases.0) c.in-Plain.field-0 (sym c.token_type.ensures ∙ c.in-Plain.is) in
    let p = err_from_is_err_and c.from_residual.result c.from_residual.ensures.1 in
    rw (p.1, p.2) (rw q (Fails-then c.in_err-plain-in-Plain.field-0.0 _ _ c.in_err-plain-in-Plain.ensures.reads))

pub returns-in_ok-plain-in-Plain-clause-reads : goal.returns-in_ok-plain-in-Plain-clause-reads
returns-in_ok-plain-in-Plain-clause-reads c =
    plain_type_is greatest_depth (views c.args.tokens.now) (tokens.view c.in-Some.token.now) (views c.in-Some.rest.now) (ap views c.in-Some.ensures.cases.0) c.in-Plain.field-0 (sym c.token_type.ensures ∙ c.in-Plain.is)
    ∙ found-then _ _ _ _ c.in_ok-plain-in-Plain.ensures.reads

pub returns-in-Process-clause-reads : goal.returns-in-Process-clause-reads
returns-in-Process-clause-reads c =
    let q = process_type_is greatest_depth (views c.args.tokens.now) (tokens.view c.in-Some.token.now) (views c.in-Some.rest.now) (ap views c.in-Some.ensures.cases.0) (sym c.token_type.ensures ∙ c.in-Process.is) in
    rw q c.read_instance.ensures.reads

pub returns-in-Name-clause-reads : goal.returns-in-Name-clause-reads
returns-in-Name-clause-reads c =
    let q = name_type_is greatest_depth (views c.args.tokens.now) (tokens.view c.in-Some.token.now) (views c.in-Some.rest.now) (ap views c.in-Some.ensures.cases.0) (sym c.token_type.ensures ∙ c.in-Name.is) in
    rw q c.read_instance-in-Name.ensures.reads

pub returns-in-Other-clause-reads : goal.returns-in-Other-clause-reads
returns-in-Other-clause-reads c =
    other_no_type greatest_depth (views c.args.tokens.now) (tokens.view c.in-Some.token.now) (views c.in-Some.rest.now) (ap views c.in-Some.ensures.cases.0) (sym c.token_type.ensures ∙ c.in-Other.is) (length c.args.tokens.now) (sym (length-views c.args.tokens.now))
