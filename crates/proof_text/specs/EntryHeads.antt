-- The first lines of entries.
use Rattle.std.specs.Prelude.{ℕ, ◌≤◌, List, ◌∷◌, All, codes, decimal}
use Rattle.kripke_model.specs.Ctl.{Ctl}
use Rattle.proof_form.specs.Form.{Entry}
use Rattle.proof_form.specs.Shape.{HasRule, ComesBefore}
use Rattle.proof_text.specs.Lines.{Line, Words, sign_word}
use Rattle.proof_text.specs.RuleHeads.{head_words, IsSmallHead, bare_rule}
use Rattle.proof_text.specs.Spells.{greatest_number}
use Rattle.proof_text.specs.declared.entry_heads.EntryHead.{EntryHead}

-- an entry of which no more is said than this
abbrev pub bare_entry : EntryHead → Entry ℕ
bare_entry h = record { node = h.node; plus = h.plus; rule = bare_rule h.rule }

-- the words behind the first one
abbrev pub signed_words : EntryHead → List (List ℕ)
signed_words h = decimal h.node ∷ sign_word h.plus ∷ head_words h.rule

abbrev pub IsSmallSigned : EntryHead → Type 0
IsSmallSigned h = (h.node ≤ greatest_number) × IsSmallHead h.rule

abbrev pub entry_head_line : EntryHead → Line
entry_head_line h = Words (codes "entry" ∷ signed_words h)

-- it has the rule of its sign of a node of the formula, and comes behind these entries
abbrev pub FitsEntryHead : Ctl → List (Entry ℕ) → EntryHead → Type 0
FitsEntryHead f earlier h
    = HasRule f (bare_entry h) × All (λ a. ComesBefore a (bare_entry h)) earlier
    × IsSmallHead h.rule
