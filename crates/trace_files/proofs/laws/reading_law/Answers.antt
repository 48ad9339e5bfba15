use Rattle.trace_files.proofs.OneTrace.{are_one_trace}
use Rattle.trace_files.proofs.Prints.{prints_apart}
use Rattle.trace_files.proofs.laws.reading_law.Goals as goal

pub returns : goal.returns
returns c bytes = are_one_trace c.args.model.now (prints_apart c.args.model.now c.rules_law.ensures.flat c.look_at_types.ensures) bytes
