-- A block that proves its claim is accepted where the limit is enough.
use Rattle.std.proofs.Common.{◌≡◌, ℕ, ◌*◌, ◌<◌, ◌≤◌, List, [], ◌∷◌, length, Option, Some, None, refl, arith}
use Rattle.bit_encode.specs.Enough.{enough}
use Rattle.kripke_model.specs.Ctl.{Ctl}
use Rattle.kripke_model.specs.System.{System}
use Rattle.fair_rules.specs.Checks.{IsFirstBad}
use Rattle.proof_form.specs.Meaning.{IsProofOf, obligations}
use Rattle.proof_form.specs.Shape.{IsInShape, spec_formula}
use Rattle.proof_text.specs.File.{Block}
use Rattle.proof_text.specs.Lines.{block_lines}
use Rattle.proof_text.specs.Meaning.{IsFirstBadLine, IsProved, over_states}
use Rattle.command_replies.specs.Answers.{Answer, Accepted, Rejected, Unanswered, IsAnswer, AreAnswers, AreAccepted}
use Rattle.std.specs.Prelude.{IsSomeAnd}

-- no line of a block fails that proves its claim
never_bad : (m : System) (order : List ℕ) (b : Block) (l : ℕ) → IsProved m order b
    → IsFirstBadLine m order b l → ⊥
never_bad m order b l proved bad = by (spec_formula m b.spec) proved bad.1
  where
    by : (o : Option Ctl) → IsSomeAnd o (λ f. IsProofOf m f (over_states m order b))
        → IsSomeAnd o (λ f. IsInShape m f (over_states m order b) × IsFirstBad m (obligations m f (over_states m order b)) bad.0) → ⊥
    by None p q = absurd p
    by (Some f) p q = q.1.1 (p.lines bad.0)

not_below : (a b : ℕ) → a < b → b ≤ a → ⊥
not_below a b less le = omega (arith, less, le)

one_accepted : (m : System) (limit : ℕ) (order : List ℕ) (b : Block) (a : Answer)
    → IsAnswer m limit order b a → IsProved m order b
    → enough m * length (block_lines m b) ≤ limit → a ≡ Accepted
one_accepted m limit order b Accepted is proved le = refl
one_accepted m limit order b (Rejected l) is proved le = absurd (never_bad m order b l proved is)
one_accepted m limit order b (Unanswered met) is proved le =
    absurd (not_below limit (enough m * length (block_lines m b)) is.1 le)

pub all_accepted : (m : System) (limit : ℕ) (order : List ℕ) (blocks : List Block)
    (answers : List Answer) → AreAnswers m limit order blocks answers
    → AreAccepted m limit order blocks answers
all_accepted m limit order [] [] h = tt
all_accepted m limit order (b ∷ blocks) (a ∷ answers) h =
    (one_accepted m limit order b a h.0, all_accepted m limit order blocks answers h.1)
all_accepted m limit order [] (a ∷ answers) h = absurd h
all_accepted m limit order (b ∷ blocks) [] h = absurd h
