use Rattle.trace_files.specs.Spells.{IsSpec}
use Rattle.trace_files.specs.Trace.{spec_line}
use Rattle.trace_files.proofs.FoundLines.{some_spec, line_missing, line_other}
use Rattle.trace_files.proofs.heads.read_spec.Goals as goal

pub returns-in_default : goal.returns-in_default
returns-in_default c = line_missing (IsSpec c.args.model.now) spec_line (some_spec c.args.model.now c.requires.some) c.in_default.ensures

pub returns-in-None : goal.returns-in-None
returns-in-None c = line_other (IsSpec c.args.model.now) spec_line (some_spec c.args.model.now c.requires.some) c.in-Some.ensures c.line-line.ensures c.in-None.ensures
