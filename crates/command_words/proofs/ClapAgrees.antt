-- How what clap finds agrees with what is kept.
use Rattle.std.proofs.Common.{◌≡◌, true, false, List, [], ◌∷◌, Option, Some, None}
use Rattle.std.specs.Prelude.{ℕ, fold}
use Rattle.std.specs.Str.{IsUtf8}
use Rattle.clap.specs.Walk.{Held, Row, Text, Walk, finished, settled, walked, with_default}
use Rattle.clap.specs.Simple.{Shape}
use Rattle.clap.specs.Kinds.{Kinds, or_else}
use Rattle.clap.specs.Faults.{check_fault, defaults_fault, settle_fault, turn_fault, walk_fault}
use Rattle.command_words.specs.Given.{Values}
use Rattle.command_words.proofs.Kept.{Kept, wants}
use Rattle.command_words.proofs.ClapFaults.{or_else_assoc}

-- ---- what clap finds, and what is kept

-- the words are read, and the rows have them
abbrev pub IsWhole : (List Row → Values → Type 0) → List Row → Option Kept → Type 0
IsWhole Reads rows (Some kept) = Reads rows kept.values
IsWhole Reads rows None = ⊥

-- no command has these parts
abbrev pub HasNone : (names : List Text) → Option Kept → Type 0
HasNone names (Some kept) = wants names kept.values ≡ true
HasNone names None = Unit {0}

-- the words are read, or are refused and are no command with these operands
abbrev pub Agrees : (names : List Text) → (List Row → Values → Type 0) → Kinds → List Row
    → Option Kept → Type 0
Agrees names Reads [] rows kept = IsWhole Reads rows kept
Agrees names Reads (kind ∷ kinds) rows kept = HasNone names kept

abbrev pub AllUtf8 : List (List ℕ) → Type 0
AllUtf8 [] = Unit {0}
AllUtf8 (word ∷ words) = IsUtf8 word × AllUtf8 words

-- ---- from where the walk stands

-- what fails at the end, by what is found then
abbrev pub ends : Shape → List Row → Kinds
ends shape rows =
    or_else (defaults_fault rows shape.rules)
    (check_fault shape (fold with_default rows shape.rules) false)

abbrev pub end_fault : Shape → Held → Kinds
end_fault shape held =
    or_else (settle_fault shape.rules false held) (ends shape (settled shape.rules held).rows)

abbrev pub rest_fault : Shape → Walk → List Text → Kinds
rest_fault shape walk words =
    or_else (walk_fault shape [] walk words)
    (end_fault shape (fold (walked shape.rules []) walk words).held)

abbrev pub rest_rows : Shape → Walk → List Text → List Row
rest_rows shape walk words = finished shape.rules (fold (walked shape.rules []) walk words).held

pub word_more : (shape : Shape) (walk : Walk) (word : Text) (words : List Text)
    → rest_fault shape walk (word ∷ words)
    ≡ or_else (turn_fault shape [] walk word)
    (rest_fault shape (walked shape.rules [] walk word) words)
unfolding walk_fault
word_more shape walk word words =
    or_else_assoc (turn_fault shape [] walk word)
    (walk_fault shape [] (walked shape.rules [] walk word) words) _
