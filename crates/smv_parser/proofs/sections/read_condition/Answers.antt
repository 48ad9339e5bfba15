use Rattle.std.proofs.Common.{◌≡◌, ℕ, List, length, map, sym, ◌∙◌, ap}
use Rattle.std.proofs.lemmas.Result.{err_from_is_err_and}
use Rattle.smv_lexer.specs.View as tokens
use Rattle.smv_lexer.specs.View.{views}
use Rattle.reader_laws.proofs.Readers.{found-then}
use Rattle.smv_parser.specs.Programs.{greatest_depth}
use Rattle.smv_parser.proofs.Codes.{Fails-then, length-views}
use Rattle.smv_lexer.specs.declared.sign.Sign.{Sign}
use Rattle.smv_parser.specs.Tests.{is_sign}
use Rattle.smv_parser.specs.View.{tree_of}
use Rattle.smv_parser.proofs.SectionCodes.{condition_closed, condition_fails, condition_open}
use Rattle.smv_parser.proofs.sections.read_condition.Goals as goal

pub returns-in_err-part-clause-reads : goal.returns-in_err-part-clause-reads
returns-in_err-part-clause-reads c =
    let p = err_from_is_err_and c.from_residual.result c.from_residual.ensures.1 in
    rw (p.1, p.2) (condition_fails greatest_depth (views c.args.tokens.now) c.in_err-part.field-0.0 c.in_err-part.ensures.reads)

pub returns-in_err-after-clause-reads : goal.returns-in_err-after-clause-reads
returns-in_err-after-clause-reads c =
    let q = condition_closed greatest_depth (views c.args.tokens.now) (tree_of c.in_ok-part.part.expr) (views c.in_ok-part.rest.now) c.in_ok-part.ensures.reads (sym c.if-begins_with_sign.ensures) in
    let p = err_from_is_err_and c.from_residual-in_err-after.result c.from_residual-in_err-after.ensures.1 in
    rw (p.1, p.2) (rw q (Fails-then c.in_err-after.field-0.0 _ _ c.in_err-after.ensures.reads))

pub returns-then-begins_with_sign-clause-reads : goal.returns-then-begins_with_sign-clause-reads
returns-then-begins_with_sign-clause-reads c =
    condition_closed greatest_depth (views c.args.tokens.now) (tree_of c.in_ok-part.part.expr) (views c.in_ok-part.rest.now) c.in_ok-part.ensures.reads (sym c.if-begins_with_sign.ensures)
    ∙ found-then _ _ _ _ c.in_ok-after.ensures.reads.1

pub returns-clause-reads : goal.returns-clause-reads
returns-clause-reads c =
    condition_open greatest_depth (views c.args.tokens.now) (tree_of c.in_ok-part.part.expr) (views c.in_ok-part.rest.now) c.in_ok-part.ensures.reads (sym c.if-begins_with_sign.ensures)
