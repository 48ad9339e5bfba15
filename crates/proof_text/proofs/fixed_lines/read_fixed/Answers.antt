use Rattle.std.proofs.Common.{sym, ◌∙◌}
use Rattle.proof_text.proofs.FoundFixed.{fixed_stops}
use Rattle.proof_text.proofs.fixed_lines.read_fixed.Goals as goal

pub returns-else-eq : goal.returns-else-eq
returns-else-eq c = λ words is levels. fixed_stops words c.args.expected.now is levels _ c.in-Some.ensures c.line-line.ensures (sym c.eq.ensures ∙ c.if-eq.false)
