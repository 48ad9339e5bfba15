use Rattle.proof_form.proofs.Sound.{sound}
use Rattle.proof_form.proofs.laws.proofs_law.Goals as goal

pub returns : goal.returns
returns c = sound c.args.model.now
