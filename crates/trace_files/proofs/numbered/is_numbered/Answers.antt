use Rattle.std.proofs.Common.{decimal}
use Rattle.trace_files.proofs.FrontLemmas.{front_iff}
use Rattle.trace_files.proofs.numbered.is_numbered.Goals as goal

pub returns-in-Some : goal.returns-in-Some
returns-in-Some c = front_iff c.args.text.now c.args.front.now c.in-Some.word.now (decimal c.args.n) c.in-Some.ensures c.is_number.ensures
