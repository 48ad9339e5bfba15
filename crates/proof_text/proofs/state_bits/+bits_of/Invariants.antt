use Rattle.std.proofs.Common.{length}
use Rattle.proof_text.proofs.state_bits.+bits_of.Given as goal

abbrev pub decreases-bits_of : goal.decreases-bits_of
decreases-bits_of l = length l.vars.now
