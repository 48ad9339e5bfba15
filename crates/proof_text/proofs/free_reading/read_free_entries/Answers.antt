use Rattle.std.proofs.Common.{arith}
use Rattle.proof_text.proofs.Joined.{memory_found}
use Rattle.proof_text.proofs.free_reading.read_free_entries.Goals as goal

pub returns-in_default-clause-fault : goal.returns-in_default-clause-fault
returns-in_default-clause-fault c = λ f few claim. memory_found (omega arith)
