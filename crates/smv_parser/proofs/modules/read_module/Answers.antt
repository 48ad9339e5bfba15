use Rattle.std.proofs.Common.{◌≡◌, ℕ, List, length, map, sym, ◌∙◌, ap}
use Rattle.std.proofs.lemmas.Result.{err_from_is_err_and}
use Rattle.smv_lexer.specs.View as tokens
use Rattle.smv_lexer.specs.View.{views}
use Rattle.reader_laws.proofs.Readers.{found-then}
use Rattle.smv_parser.specs.Programs.{greatest_depth}
use Rattle.smv_parser.proofs.Codes.{Fails-then, both_fails, both_fails_after, both_found}
use Rattle.smv_lexer.specs.declared.keyword.Keyword.{Keyword}
use Rattle.reader_laws.specs.Reading.{accept, both, many}
use Rattle.reader_laws.specs.Reading.Reading.{found}
use Rattle.smv_parser.specs.Openings.{begins_section, formal_of, key_line}
use Rattle.smv_parser.specs.ProgramReading.{lined, parameters, read_section}
use Rattle.smv_parser.specs.ProgramView as view
use Rattle.smv_parser.specs.Reading.{front_line}
use Rattle.smv_parser.specs.Tests.{name_of}
use Rattle.smv_parser.proofs.ItemCodes.{key_fails, key_found}
use Rattle.smv_parser.proofs.SectionCodes.{module_is}
use Rattle.smv_parser.proofs.modules.read_module.Goals as goal

pub returns-in_err-rest-clause-reads : goal.returns-in_err-rest-clause-reads
returns-in_err-rest-clause-reads c =
    let q = module_is greatest_depth (views c.args.tokens.now) in
    let p = err_from_is_err_and c.from_residual.result c.from_residual.ensures.1 in
    rw (p.1, p.2) (rw q (Fails-then c.in_err-rest.field-0.0 _ _ (both_fails (both (accept (key_line Keyword.Module)) (accept name_of)) (both (parameters (accept formal_of)) (λ v. many begins_section (read_section greatest_depth) (length v) v)) (views c.args.tokens.now) c.in_err-rest.field-0.0 (both_fails (accept (key_line Keyword.Module)) (accept name_of) (views c.args.tokens.now) c.in_err-rest.field-0.0 (key_fails Keyword.Module (views c.args.tokens.now) c.in_err-rest.field-0.0 c.in_err-rest.ensures.reads)))))

pub returns-in_err-name-clause-reads : goal.returns-in_err-name-clause-reads
returns-in_err-name-clause-reads c =
    let q = module_is greatest_depth (views c.args.tokens.now) in
    let p = err_from_is_err_and c.from_residual-in_err-name.result c.from_residual-in_err-name.ensures.1 in
    rw (p.1, p.2) (rw q (Fails-then c.in_err-name.field-0.0 _ _ (both_fails (both (accept (key_line Keyword.Module)) (accept name_of)) (both (parameters (accept formal_of)) (λ v. many begins_section (read_section greatest_depth) (length v) v)) (views c.args.tokens.now) c.in_err-name.field-0.0
    (both_fails_after (accept (key_line Keyword.Module)) (accept name_of) (views c.args.tokens.now) (front_line (views c.args.tokens.now)) (views c.in_ok-rest.rest.now) c.in_err-name.field-0.0 (key_found Keyword.Module (views c.args.tokens.now) (views c.in_ok-rest.rest.now) c.in_ok-rest.ensures.reads.0 c.in_ok-rest.ensures.reads.1) c.in_err-name.ensures.reads))))

pub returns-in_err-formals-clause-reads : goal.returns-in_err-formals-clause-reads
returns-in_err-formals-clause-reads c =
    let q = module_is greatest_depth (views c.args.tokens.now) in
    let p = err_from_is_err_and c.from_residual-in_err-formals.result c.from_residual-in_err-formals.ensures.1 in
    rw (p.1, p.2) (rw q (Fails-then c.in_err-formals.field-0.0 _ _ (both_fails_after (both (accept (key_line Keyword.Module)) (accept name_of)) (both (parameters (accept formal_of)) (λ v. many begins_section (read_section greatest_depth) (length v) v)) (views c.args.tokens.now) ((front_line (views c.args.tokens.now)), c.in_ok-name.name) (views c.in_ok-name.rest.now) c.in_err-formals.field-0.0
    (both_found (accept (key_line Keyword.Module)) (accept name_of) (views c.args.tokens.now) (front_line (views c.args.tokens.now)) (views c.in_ok-rest.rest.now) c.in_ok-name.name (views c.in_ok-name.rest.now) (key_found Keyword.Module (views c.args.tokens.now) (views c.in_ok-rest.rest.now) c.in_ok-rest.ensures.reads.0 c.in_ok-rest.ensures.reads.1) c.in_ok-name.ensures.reads)
    (both_fails (parameters (accept formal_of)) (λ v. many begins_section (read_section greatest_depth) (length v) v) (views c.in_ok-name.rest.now) c.in_err-formals.field-0.0 c.in_err-formals.ensures.reads))))

pub returns-in_err-sections-clause-reads : goal.returns-in_err-sections-clause-reads
returns-in_err-sections-clause-reads c =
    let q = module_is greatest_depth (views c.args.tokens.now) in
    let p = err_from_is_err_and c.from_residual-in_err-sections.result c.from_residual-in_err-sections.ensures.1 in
    rw (p.1, p.2) (rw q (Fails-then c.in_err-sections.field-0.0 _ _ (both_fails_after (both (accept (key_line Keyword.Module)) (accept name_of)) (both (parameters (accept formal_of)) (λ v. many begins_section (read_section greatest_depth) (length v) v)) (views c.args.tokens.now) ((front_line (views c.args.tokens.now)), c.in_ok-name.name) (views c.in_ok-name.rest.now) c.in_err-sections.field-0.0
    (both_found (accept (key_line Keyword.Module)) (accept name_of) (views c.args.tokens.now) (front_line (views c.args.tokens.now)) (views c.in_ok-rest.rest.now) c.in_ok-name.name (views c.in_ok-name.rest.now) (key_found Keyword.Module (views c.args.tokens.now) (views c.in_ok-rest.rest.now) c.in_ok-rest.ensures.reads.0 c.in_ok-rest.ensures.reads.1) c.in_ok-name.ensures.reads)
    (both_fails_after (parameters (accept formal_of)) (λ v. many begins_section (read_section greatest_depth) (length v) v) (views c.in_ok-name.rest.now) (map view.formal c.in_ok-formals.formals.items) (views c.in_ok-formals.rest.now) c.in_err-sections.field-0.0 c.in_ok-formals.ensures.reads c.in_err-sections.ensures.reads))))

pub returns-clause-reads : goal.returns-clause-reads
returns-clause-reads c =
    module_is greatest_depth (views c.args.tokens.now)
    ∙ found-then _ _ _ _ (both_found (both (accept (key_line Keyword.Module)) (accept name_of)) (both (parameters (accept formal_of)) (λ v. many begins_section (read_section greatest_depth) (length v) v)) (views c.args.tokens.now) ((front_line (views c.args.tokens.now)), c.in_ok-name.name) (views c.in_ok-name.rest.now) ((map view.formal c.in_ok-formals.formals.items), (map view.section c.in_ok-sections.sections.items)) (views c.in_ok-sections.rest.now)
    (both_found (accept (key_line Keyword.Module)) (accept name_of) (views c.args.tokens.now) (front_line (views c.args.tokens.now)) (views c.in_ok-rest.rest.now) c.in_ok-name.name (views c.in_ok-name.rest.now) (key_found Keyword.Module (views c.args.tokens.now) (views c.in_ok-rest.rest.now) c.in_ok-rest.ensures.reads.0 c.in_ok-rest.ensures.reads.1) c.in_ok-name.ensures.reads)
    (both_found (parameters (accept formal_of)) (λ v. many begins_section (read_section greatest_depth) (length v) v) (views c.in_ok-name.rest.now) (map view.formal c.in_ok-formals.formals.items) (views c.in_ok-formals.rest.now) (map view.section c.in_ok-sections.sections.items) (views c.in_ok-sections.rest.now) c.in_ok-formals.ensures.reads c.in_ok-sections.ensures.reads))
    ∙ ap (λ (l : ℕ). found (lined l (record { name = c.in_ok-name.name; formals = (map view.formal c.in_ok-formals.formals.items); sections = (map view.section c.in_ok-sections.sections.items) })) (views c.in_ok-sections.rest.now)) (sym c.first_line-line.ensures)
