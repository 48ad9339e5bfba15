use Rattle.trace_files.proofs.Reasons.{one_reason, not_neither}
use Rattle.trace_files.proofs.laws.refusal_law.Goals as goal

pub returns : goal.returns
returns c bytes = record { one_reason = one_reason c.args.model.now bytes; not_neither = not_neither c.args.model.now bytes }
