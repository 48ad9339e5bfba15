use Rattle.proof_cases.proofs.Lessened.{alone}
use Rattle.proof_cases.proofs.bare.strip_entries.Goals as goal

pub strip_at-requires-clause-pins : goal.strip_at-requires-clause-pins
strip_at-requires-clause-pins g c = alone c.loop-k.invariant.0 c.requires
