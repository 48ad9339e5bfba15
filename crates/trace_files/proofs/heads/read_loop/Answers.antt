use Rattle.std.proofs.Common.{arith}
use Rattle.trace_files.specs.Parts.{FitsLoop}
use Rattle.trace_files.specs.Trace.{loop_line}
use Rattle.trace_files.proofs.FoundLines.{line_missing, line_other}
use Rattle.trace_files.proofs.heads.read_loop.Goals as goal

pub returns-in_default : goal.returns-in_default
returns-in_default c = line_missing (FitsLoop c.args.others.now) loop_line (0, omega arith) c.in_default.ensures

pub returns-in-None : goal.returns-in-None
returns-in-None c = line_other (FitsLoop c.args.others.now) loop_line (0, omega arith) c.in-Some.ensures c.line-line.ensures c.in-None.ensures
