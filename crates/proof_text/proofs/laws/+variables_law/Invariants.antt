use Rattle.std.proofs.Common.{length}
use Rattle.proof_text.proofs.laws.+variables_law.Given as goal

abbrev pub decreases-variables_law : goal.decreases-variables_law
decreases-variables_law l = length l.vars.now
