use Rattle.std.proofs.Common.{◌∷◌, [], codes, refl}
use Rattle.proof_text.proofs.state_reading.read_last.Goals as goal

pub returns : goal.returns
returns c = c.read_fixed.ensures (codes "end" ∷ []) refl
