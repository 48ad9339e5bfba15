-- What is answered to each block of a proof file.
use Rattle.std.specs.Prelude.{◌≡◌, ℕ, ◌*◌, ◌<◌, ◌≤◌, List, [], ◌∷◌, length}
use Rattle.bit_encode.specs.Enough.{enough}
use Rattle.kripke_model.specs.System.{System}
use Rattle.proof_form.specs.Meaning.{ClaimHolds}
use Rattle.proof_text.specs.File.{Block}
use Rattle.proof_text.specs.Lines.{block_lines}
use Rattle.proof_text.specs.Meaning.{IsProved, IsFirstBadLine}

-- what is answered to a block: the node limit that was met, where nothing else is
pub data Answer : Type 0 where
  Accepted : Answer
  Rejected : (line : ℕ) → Answer
  Unanswered : (limit : ℕ) → Answer

-- A block is accepted only where each line shows what it has to, and then its claim is true. It is
-- rejected only at the first line that doesn't. It is unanswered only where the limit is below what
-- is enough for each of its lines.
abbrev pub IsAnswer : System → ℕ → List ℕ → Block → Answer → Type 0
IsAnswer m limit order b Accepted = IsProved m order b × ClaimHolds m b.spec b.proof.claim
IsAnswer m limit order b (Rejected l) = IsFirstBadLine m order b l
IsAnswer m limit order b (Unanswered met) =
    (met ≡ limit) × (limit < enough m * length (block_lines m b))

-- one answer for each block, in order
abbrev pub AreAnswers : System → ℕ → List ℕ → List Block → List Answer → Type 0
AreAnswers m limit order [] [] = Unit {0}
AreAnswers m limit order (b ∷ blocks) (a ∷ answers) =
    IsAnswer m limit order b a × AreAnswers m limit order blocks answers
AreAnswers m limit order blocks answers = ⊥

-- each block that proves its claim is accepted, where the limit is enough for each of its lines
abbrev pub AreAccepted : System → ℕ → List ℕ → List Block → List Answer → Type 0
AreAccepted m limit order [] [] = Unit {0}
AreAccepted m limit order (b ∷ blocks) (a ∷ answers) =
    (IsProved m order b → enough m * length (block_lines m b) ≤ limit → a ≡ Accepted)
    × AreAccepted m limit order blocks answers
AreAccepted m limit order blocks answers = ⊥
