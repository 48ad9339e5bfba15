use Rattle.std.proofs.Common.{length}
use Rattle.trace_files.specs.Parts.{FitsValue}
use Rattle.trace_files.specs.Trace.{value_line}
use Rattle.trace_files.proofs.FoundLines.{some_value, line_missing, line_other}
use Rattle.trace_files.proofs.state_reading.read_value.Goals as goal

pub returns-in_default : goal.returns-in_default
returns-in_default c =
    line_missing (FitsValue c.args.model.now c.args.earlier.now) (value_line c.args.model.now (length c.args.earlier.now)) (some_value c.args.model.now c.rules_law.ensures.flat c.args.earlier.now) c.in_default.ensures

pub returns-in-None : goal.returns-in-None
returns-in-None c =
    line_other (FitsValue c.args.model.now c.args.earlier.now) (value_line c.args.model.now (length c.args.earlier.now)) (some_value c.args.model.now c.rules_law.ensures.flat c.args.earlier.now) c.in-Some.ensures
    c.line-line.ensures c.in-None.ensures
