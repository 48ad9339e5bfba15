use Rattle.proof_text.proofs.WrittenFiles.{are_spelled}
use Rattle.proof_text.proofs.laws.written_law.Goals as goal

pub returns : goal.returns
returns c = are_spelled c.args.model.now c.rules_law.ensures.flat
