use Rattle.proof_cases.proofs.Lessened.{alone}
use Rattle.proof_cases.proofs.finding.test_changed.Goals as goal

pub changed-proof-requires : goal.changed-proof-requires
changed-proof-requires g c = alone c.with_spare-proof.ensures c.requires.pins

pub test_both-requires-clause-pins : goal.test_both-requires-clause-pins
test_both-requires-clause-pins g c = alone c.changed-proof.ensures (alone c.with_spare-proof.ensures c.requires.pins)
