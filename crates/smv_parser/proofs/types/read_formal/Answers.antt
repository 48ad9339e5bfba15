use Rattle.std.proofs.Common.{◌≡◌, ℕ, sym, ◌∙◌, ap}
use Rattle.std.proofs.lemmas.Result.{err_from_is_err_and}
use Rattle.smv_lexer.specs.View.{views}
use Rattle.reader_laws.specs.Reading.Reading.{found}
use Rattle.smv_parser.specs.ProgramReading.{lined}
use Rattle.smv_parser.proofs.ItemCodes.{formal_fails, formal_found}
use Rattle.smv_parser.proofs.types.read_formal.Goals as goal

pub returns-in_err-name-clause-reads : goal.returns-in_err-name-clause-reads
returns-in_err-name-clause-reads c =
    let p = err_from_is_err_and c.from_residual.result c.from_residual.ensures.1 in
    rw (p.1, p.2) (formal_fails (views c.args.tokens.now) c.in_err-name.field-0.0 c.in_err-name.ensures.reads)

pub returns-clause-reads : goal.returns-clause-reads
returns-clause-reads c =
    formal_found (views c.args.tokens.now) (views c.in_ok-name.rest.now) c.in_ok-name.name c.in_ok-name.ensures.reads
    ∙ ap (λ (l : ℕ). found (lined l c.in_ok-name.name) (views c.in_ok-name.rest.now)) (sym c.first_line-line.ensures)
