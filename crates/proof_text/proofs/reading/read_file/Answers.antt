use Rattle.std.proofs.Common.{subst}
use Rattle.proof_text.specs.FileFault.{IsFileFault}
use Rattle.proof_text.proofs.reading.read_file.Goals as goal

pub refusal_of-requires-clause-fault : goal.refusal_of-requires-clause-fault
refusal_of-requires-clause-fault c = rw c.line.ensures (subst (λ bytes. IsFileFault c.args.model.now bytes c.read_all.new.cursor.line c.in-Err.fault) c.new-cursor.ensures.left c.in-Err.ensures)
