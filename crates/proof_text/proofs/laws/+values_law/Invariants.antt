use Rattle.std.proofs.Common.{length}
use Rattle.proof_text.proofs.laws.+values_law.Given as goal

abbrev pub decreases-values_law : goal.decreases-values_law
decreases-values_law l = length l.values.now
