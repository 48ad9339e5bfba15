use Rattle.std.proofs.Common.{◌≡◌, List, map, ◌∙◌}
use Rattle.std.proofs.lemmas.Result.{err_from_is_err_and}
use Rattle.smv_lexer.specs.View.{views}
use Rattle.reader_laws.specs.Reading.{accept, both}
use Rattle.reader_laws.specs.Reading.Reading.{found}
use Rattle.reader_laws.proofs.Readers.{found-then}
use Rattle.smv_parser.specs.Program.{TypeForm}
use Rattle.smv_parser.specs.ProgramReading.{lined, parameters}
use Rattle.smv_parser.specs.Programs.{greatest_depth}
use Rattle.smv_parser.specs.Reading.{read}
use Rattle.smv_parser.specs.Tests.{name_of}
use Rattle.smv_parser.specs.View.{tree_of}
use Rattle.smv_parser.proofs.Codes.{Fails-then, both_fails, both_fails_after, both_found}
use Rattle.smv_parser.proofs.TypeCodes.{instance_is}
use Rattle.smv_parser.proofs.types.read_instance.Goals as goal

pub returns-in_err-module-clause-reads : goal.returns-in_err-module-clause-reads
returns-in_err-module-clause-reads c =
    let q = instance_is greatest_depth c.args.process c.args.line (views c.args.tokens.now) in
    let p = err_from_is_err_and c.from_residual.result c.from_residual.ensures.1 in
    rw (p.1, p.2) (rw q (Fails-then c.in_err-module.field-0.0 _ _
    (both_fails (accept name_of) (parameters (read greatest_depth 1)) (views c.args.tokens.now) c.in_err-module.field-0.0 c.in_err-module.ensures.reads)))

pub returns-in_err-actuals-clause-reads : goal.returns-in_err-actuals-clause-reads
returns-in_err-actuals-clause-reads c =
    let q = instance_is greatest_depth c.args.process c.args.line (views c.args.tokens.now) in
    let p = err_from_is_err_and c.from_residual-in_err-actuals.result c.from_residual-in_err-actuals.ensures.1 in
    rw (p.1, p.2) (rw q (Fails-then c.in_err-actuals.field-0.0 _ _
    (both_fails_after (accept name_of) (parameters (read greatest_depth 1)) (views c.args.tokens.now) c.in_ok-module.module (views c.in_ok-module.rest.now) c.in_err-actuals.field-0.0
    c.in_ok-module.ensures.reads c.in_err-actuals.ensures.reads)))

pub returns-clause-reads : goal.returns-clause-reads
returns-clause-reads c =
    instance_is greatest_depth c.args.process c.args.line (views c.args.tokens.now)
    ∙ found-then _ _ _ _
    (both_found (accept name_of) (parameters (read greatest_depth 1)) (views c.args.tokens.now) c.in_ok-module.module (views c.in_ok-module.rest.now) (map tree_of c.in_ok-actuals.actuals.items) (views c.in_ok-actuals.rest.now)
    c.in_ok-module.ensures.reads c.in_ok-actuals.ensures.reads)
