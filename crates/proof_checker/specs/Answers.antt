-- What is answered to a block.
use Rattle.std.specs.Prelude.{◌≡◌, ℕ, ◌*◌, ◌<◌, List, length}
use Rattle.bdd_nodes.specs.Refusal.{levels_shown, number_shown}
use Rattle.bit_encode.specs.Code.{state_bits}
use Rattle.bit_encode.specs.Enough.{enough}
use Rattle.kripke_model.specs.System.{System}
use Rattle.proof_form.specs.Meaning.{ClaimHolds}
use Rattle.proof_text.specs.File.{Block}
use Rattle.proof_text.specs.Lines.{block_lines}
use Rattle.proof_text.specs.Meaning.{IsProved, IsFirstBadLine}
use Rattle.proof_checker.specs.declared.checking.Answer.{Answer}
use Rattle.proof_checker.specs.declared.checking.Answer.TheVariants.{Accepted, Rejected, NodeLimit}

-- Accepted: each line shows what it has to, and the claim is true. Rejected: it is the first line
-- that doesn't. Or the store was full, and the limit is below what is enough for each line.
abbrev pub IsAnswerTo : System → List ℕ → Block → ℕ → Answer → Type 0
IsAnswerTo m order b limit Accepted = IsProved m order b × ClaimHolds m b.spec b.proof.claim
IsAnswerTo m order b limit (Rejected l) = IsFirstBadLine m order b l
IsAnswerTo m order b limit (NodeLimit held) = (levels_shown held ≡ 2 * state_bits m)
    × (number_shown held ≡ limit) × (limit < enough m * length (block_lines m b))
