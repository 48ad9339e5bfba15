-- The first lines of entries for constraints.
use Rattle.std.specs.Prelude.{ℕ, ◌≤◌, List, ◌∷◌, All, codes, decimal}
use Rattle.kripke_model.specs.System.{System}
use Rattle.proof_form.specs.Form.{FreeEntry}
use Rattle.proof_form.specs.Shape.{HasConstraintRule, StandsBefore}
use Rattle.proof_text.specs.EntryHeads.{bare_entry, signed_words, IsSmallSigned}
use Rattle.proof_text.specs.Lines.{Line, Words}
use Rattle.proof_text.specs.RuleHeads.{IsSmallHead}
use Rattle.proof_text.specs.Spells.{greatest_number}
use Rattle.proof_text.specs.declared.free_heads.FreeHead.{FreeHead}

-- an entry of which no more is said than this
abbrev pub bare_free_entry : FreeHead → FreeEntry ℕ
bare_free_entry h = record { constraint = h.constraint; entry = bare_entry h.entry }

-- the words behind the first one
abbrev pub free_words : FreeHead → List (List ℕ)
free_words h = decimal h.constraint ∷ signed_words h.entry

abbrev pub IsSmallFree : FreeHead → Type 0
IsSmallFree h = (h.constraint ≤ greatest_number) × IsSmallSigned h.entry

abbrev pub free_head_line : FreeHead → Line
free_head_line h = Words (codes "centry" ∷ free_words h)

-- it has the rule of its sign of a node of its constraint's formula, and comes behind these entries
abbrev pub FitsFreeHead : System → List (FreeEntry ℕ) → FreeHead → Type 0
FitsFreeHead m earlier h
    = HasConstraintRule m (bare_free_entry h)
    × All (λ a. StandsBefore a (bare_free_entry h)) earlier
    × IsSmallHead h.entry.rule
