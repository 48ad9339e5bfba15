use Rattle.std.proofs.Common.{◌≡◌, ℕ, List, length, map, sym, ◌∙◌, ap}
use Rattle.std.proofs.lemmas.Result.{err_from_is_err_and}
use Rattle.smv_lexer.specs.View as tokens
use Rattle.smv_lexer.specs.View.{views}
use Rattle.reader_laws.proofs.Readers.{found-then}
use Rattle.smv_parser.specs.Programs.{greatest_depth}
use Rattle.smv_parser.proofs.Codes.{Fails-then, length-views}
use Rattle.smv_parser.proofs.SectionCodes.{assignments_is, condition_is, definitions_is, no_section, section_empty, variables_is}
use Rattle.smv_parser.proofs.sections.read_section.Goals as goal

pub returns-in_default-clause-reads : goal.returns-in_default-clause-reads
returns-in_default-clause-reads c = section_empty greatest_depth (views c.args.tokens.now) (length-views c.args.tokens.now ∙ c.in_default.ensures.cases)

pub returns-in-Other-clause-reads : goal.returns-in-Other-clause-reads
returns-in-Other-clause-reads c =
    no_section greatest_depth (views c.args.tokens.now) (tokens.view c.in-Some.token.now) (views c.in-Some.rest.now) (ap views c.in-Some.ensures.cases.0) (sym c.token_section.ensures ∙ c.in-Other.is) (length c.args.tokens.now) (sym (length-views c.args.tokens.now))

pub returns-in_err-declarations-in-Variables-clause-reads : goal.returns-in_err-declarations-in-Variables-clause-reads
returns-in_err-declarations-in-Variables-clause-reads c =
    let q = variables_is greatest_depth (views c.args.tokens.now) (tokens.view c.in-Some.token.now) (views c.in-Some.rest.now) (ap views c.in-Some.ensures.cases.0) (sym c.token_section.ensures ∙ c.in-Variables.is) in
    let p = err_from_is_err_and c.from_residual.result c.from_residual.ensures.1 in
    rw (p.1, p.2) (rw q (Fails-then c.in_err-declarations-in-Variables.field-0.0 _ _ c.in_err-declarations-in-Variables.ensures.reads))

pub returns-in_ok-declarations-in-Variables-clause-reads : goal.returns-in_ok-declarations-in-Variables-clause-reads
returns-in_ok-declarations-in-Variables-clause-reads c = variables_is greatest_depth (views c.args.tokens.now) (tokens.view c.in-Some.token.now) (views c.in-Some.rest.now) (ap views c.in-Some.ensures.cases.0) (sym c.token_section.ensures ∙ c.in-Variables.is) ∙ found-then _ _ _ _ c.in_ok-declarations-in-Variables.ensures.reads

pub returns-in_err-assignments-in-Assignments-clause-reads : goal.returns-in_err-assignments-in-Assignments-clause-reads
returns-in_err-assignments-in-Assignments-clause-reads c =
    let q = assignments_is greatest_depth (views c.args.tokens.now) (tokens.view c.in-Some.token.now) (views c.in-Some.rest.now) (ap views c.in-Some.ensures.cases.0) (sym c.token_section.ensures ∙ c.in-Assignments.is) in
    let p = err_from_is_err_and c.from_residual-in_err-assignments-in-Assignments.result c.from_residual-in_err-assignments-in-Assignments.ensures.1 in
    rw (p.1, p.2) (rw q (Fails-then c.in_err-assignments-in-Assignments.field-0.0 _ _ c.in_err-assignments-in-Assignments.ensures.reads))

pub returns-in_ok-assignments-in-Assignments-clause-reads : goal.returns-in_ok-assignments-in-Assignments-clause-reads
returns-in_ok-assignments-in-Assignments-clause-reads c = assignments_is greatest_depth (views c.args.tokens.now) (tokens.view c.in-Some.token.now) (views c.in-Some.rest.now) (ap views c.in-Some.ensures.cases.0) (sym c.token_section.ensures ∙ c.in-Assignments.is) ∙ found-then _ _ _ _ c.in_ok-assignments-in-Assignments.ensures.reads

pub returns-in_err-definitions-in-Definitions-clause-reads : goal.returns-in_err-definitions-in-Definitions-clause-reads
returns-in_err-definitions-in-Definitions-clause-reads c =
    let q = definitions_is greatest_depth (views c.args.tokens.now) (tokens.view c.in-Some.token.now) (views c.in-Some.rest.now) (ap views c.in-Some.ensures.cases.0) (sym c.token_section.ensures ∙ c.in-Definitions.is) in
    let p = err_from_is_err_and c.from_residual-in_err-definitions-in-Definitions.result c.from_residual-in_err-definitions-in-Definitions.ensures.1 in
    rw (p.1, p.2) (rw q (Fails-then c.in_err-definitions-in-Definitions.field-0.0 _ _ c.in_err-definitions-in-Definitions.ensures.reads))

pub returns-in_ok-definitions-in-Definitions-clause-reads : goal.returns-in_ok-definitions-in-Definitions-clause-reads
returns-in_ok-definitions-in-Definitions-clause-reads c = definitions_is greatest_depth (views c.args.tokens.now) (tokens.view c.in-Some.token.now) (views c.in-Some.rest.now) (ap views c.in-Some.ensures.cases.0) (sym c.token_section.ensures ∙ c.in-Definitions.is) ∙ found-then _ _ _ _ c.in_ok-definitions-in-Definitions.ensures.reads

pub returns-in_err-expr-in-Condition-clause-reads : goal.returns-in_err-expr-in-Condition-clause-reads
returns-in_err-expr-in-Condition-clause-reads c =
    let q = condition_is greatest_depth (views c.args.tokens.now) (tokens.view c.in-Some.token.now) (views c.in-Some.rest.now) (ap views c.in-Some.ensures.cases.0) c.in-Condition.condition (sym c.token_section.ensures ∙ c.in-Condition.is) in
    let p = err_from_is_err_and c.from_residual-in_err-expr-in-Condition.result c.from_residual-in_err-expr-in-Condition.ensures.1 in
    rw (p.1, p.2) (rw q (Fails-then c.in_err-expr-in-Condition.field-0.0 _ _ c.in_err-expr-in-Condition.ensures.reads))

pub returns-in_ok-expr-in-Condition-clause-reads : goal.returns-in_ok-expr-in-Condition-clause-reads
returns-in_ok-expr-in-Condition-clause-reads c = condition_is greatest_depth (views c.args.tokens.now) (tokens.view c.in-Some.token.now) (views c.in-Some.rest.now) (ap views c.in-Some.ensures.cases.0) c.in-Condition.condition (sym c.token_section.ensures ∙ c.in-Condition.is) ∙ found-then _ _ _ _ c.in_ok-expr-in-Condition.ensures.reads
