use Rattle.std.proofs.Common.{◌≡◌, ℕ, List, length, map, sym, ◌∙◌, ap}
use Rattle.std.proofs.lemmas.Result.{err_from_is_err_and}
use Rattle.smv_lexer.specs.View as tokens
use Rattle.smv_lexer.specs.View.{views}
use Rattle.reader_laws.proofs.Readers.{found-then}
use Rattle.smv_parser.specs.Programs.{greatest_depth}
use Rattle.smv_parser.proofs.Codes.{Fails-then, length-views}
use Rattle.smv_parser.proofs.SectionCodes.{definition_is}
use Rattle.smv_parser.proofs.sections.read_definition.Goals as goal

pub returns-in_err-formal-clause-reads : goal.returns-in_err-formal-clause-reads
returns-in_err-formal-clause-reads c =
    let q = definition_is greatest_depth (views c.args.tokens.now) in
    let p = err_from_is_err_and c.from_residual.result c.from_residual.ensures.1 in
    rw (p.1, p.2) (rw q (Fails-then c.in_err-formal.field-0.0 _ _ c.in_err-formal.ensures.reads))

pub returns-clause-reads : goal.returns-clause-reads
returns-clause-reads c = definition_is greatest_depth (views c.args.tokens.now) ∙ found-then _ _ _ _ c.in_ok-formal.ensures.reads
