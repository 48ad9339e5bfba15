use Rattle.std.proofs.Common.{◌≡◌, ℕ, List, length, map, sym, ◌∙◌, ap}
use Rattle.std.proofs.lemmas.Result.{err_from_is_err_and}
use Rattle.smv_lexer.specs.View as tokens
use Rattle.smv_lexer.specs.View.{views}
use Rattle.reader_laws.proofs.Readers.{found-then}
use Rattle.smv_parser.specs.Programs.{greatest_depth}
use Rattle.smv_parser.proofs.Codes.{Fails-then, length-views}
use Rattle.smv_parser.proofs.SectionCodes.{current_is, deepest_path, init_is, left_empty, next_is, no_left}
use Rattle.smv_parser.proofs.sections.read_left.Goals as goal

pub returns-in_default-clause-reads : goal.returns-in_default-clause-reads
returns-in_default-clause-reads c = left_empty greatest_depth (views c.args.tokens.now) (length-views c.args.tokens.now ∙ c.in_default.ensures.cases)

pub returns-in_err-whole-in-Some-Current-clause-reads : goal.returns-in_err-whole-in-Some-Current-clause-reads
returns-in_err-whole-in-Some-Current-clause-reads c =
    let q = current_is greatest_depth (views c.args.tokens.now) (tokens.view c.in-Some.token.now) (views c.in-Some.rest.now) (ap views c.in-Some.ensures.cases.0) (sym c.token_left.ensures ∙ c.in-Some-Current.is ∙ ap Rattle.std.specs.Prelude.Some c.in-Some-Current.field-0-is) in
    let w = deepest_path (views c.args.tokens.now) in
    let p = err_from_is_err_and c.from_residual.result c.from_residual.ensures.1 in
    rw (p.1, p.2) (rw (q, w) (Fails-then c.in_err-whole-in-Some-Current.field-0.0 _ _ c.in_err-whole-in-Some-Current.ensures.reads))

pub returns-in_ok-whole-in-Some-Current-clause-reads : goal.returns-in_ok-whole-in-Some-Current-clause-reads
returns-in_ok-whole-in-Some-Current-clause-reads c =
    current_is greatest_depth (views c.args.tokens.now) (tokens.view c.in-Some.token.now) (views c.in-Some.rest.now) (ap views c.in-Some.ensures.cases.0) (sym c.token_left.ensures ∙ c.in-Some-Current.is ∙ ap Rattle.std.specs.Prelude.Some c.in-Some-Current.field-0-is)
    ∙ found-then _ _ _ _ (deepest_path (views c.args.tokens.now) ∙ c.in_ok-whole-in-Some-Current.ensures.reads)

pub returns-in-Some-Init-clause-reads : goal.returns-in-Some-Init-clause-reads
returns-in-Some-Init-clause-reads c =
    let q = init_is greatest_depth (views c.args.tokens.now) (tokens.view c.in-Some.token.now) (views c.in-Some.rest.now) (ap views c.in-Some.ensures.cases.0) (sym c.token_left.ensures ∙ c.in-Some-Init.is ∙ ap Rattle.std.specs.Prelude.Some c.in-Some-Init.field-0-is) in
    rw q c.read_left_in_parens.ensures.reads

pub returns-in-Some-Next-clause-reads : goal.returns-in-Some-Next-clause-reads
returns-in-Some-Next-clause-reads c =
    let q = next_is greatest_depth (views c.args.tokens.now) (tokens.view c.in-Some.token.now) (views c.in-Some.rest.now) (ap views c.in-Some.ensures.cases.0) (sym c.token_left.ensures ∙ c.in-Some-Next.is ∙ ap Rattle.std.specs.Prelude.Some c.in-Some-Next.field-0-is) in
    rw q c.read_left_in_parens-in-Some-Next.ensures.reads

pub returns-in-None-clause-reads : goal.returns-in-None-clause-reads
returns-in-None-clause-reads c =
    no_left greatest_depth (views c.args.tokens.now) (tokens.view c.in-Some.token.now) (views c.in-Some.rest.now) (ap views c.in-Some.ensures.cases.0) (sym c.token_left.ensures ∙ c.in-None.is) (length c.args.tokens.now) (sym (length-views c.args.tokens.now))
