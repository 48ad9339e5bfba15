use Rattle.trace_files.proofs.FrontLemmas.{stripped}
use Rattle.trace_files.proofs.fronts.behind.Goals as goal

pub returns : goal.returns
returns c = stripped (λ b. b.now) c.args.text.now c.args.front.now c.strip_prefix.result c.strip_prefix.ensures.cases
