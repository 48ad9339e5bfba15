-- A line as words with one space between.
use Rattle.std.specs.Prelude.{◌≡◌, ℕ, ◌==◌, List, [], ◌∷◌, Contains, All, Option, Some, None}
use Rattle.std.specs.List.{join_with_byte, slice_split}

abbrev pub IsOneWord : List ℕ → Type 0
IsOneWord word = Contains word 32 → ⊥

-- the text is these words, at least one
pub record AreWords (text : List ℕ) (words : List (List ℕ)) : Type 0 where
  pub joined : text ≡ join_with_byte 32 words
  pub each : All IsOneWord words
  pub some : words ≡ [] → ⊥

-- what stands between the spaces of the text
abbrev pub words_in : List ℕ → List (List ℕ)
words_in text = slice_split (λ c. c == 32) text

-- what is found where a word is taken
abbrev pub TakesWord : List (List ℕ) → Option (List ℕ) → List (List ℕ) → Type 0
TakesWord old None new = (old ≡ []) × (new ≡ [])
TakesWord old (Some word) new = old ≡ word ∷ new
