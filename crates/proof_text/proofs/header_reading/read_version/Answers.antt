use Rattle.std.proofs.Common.{◌∷◌, [], codes, sym}
use Rattle.proof_text.specs.Lines.{version_word}
use Rattle.proof_text.proofs.header_reading.read_version.Goals as goal

pub returns : goal.returns
returns c = c.read_fixed.ensures (codes "smvproof" ∷ version_word c.args.model.now ∷ []) (sym c.version_text.ensures)
