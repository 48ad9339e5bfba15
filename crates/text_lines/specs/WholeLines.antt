-- The lines of a text, each with its line feed, and the rest behind the last one.
use Rattle.std.specs.Prelude.{◌≡◌, ℕ, ◌==◌, if◌then◌else◌, List, [], ◌∷◌, ◌++◌, Contains, All, flat_map}

-- texts of lines, each with a line feed behind it
abbrev pub join_lines : List (List ℕ) → List ℕ
join_lines texts = flat_map (λ text. text ++ 10 ∷ []) texts

abbrev pub IsOneLine : List ℕ → Type 0
IsOneLine text = Contains text 10 → ⊥

-- the bytes are these whole lines, and behind them a rest without a line feed
pub record IsCut (bytes : List ℕ) (lines : List (List ℕ)) (rest : List ℕ) : Type 0 where
  pub cut : bytes ≡ join_lines lines ++ rest
  pub each : All IsOneLine lines
  pub last : IsOneLine rest

-- the byte is put in front of the first line, where there is one
abbrev pub onto_line : ℕ → List (List ℕ) → List (List ℕ)
onto_line c [] = []
onto_line c (text ∷ texts) = (c ∷ text) ∷ texts

-- the whole lines of the bytes
abbrev pub lines_in : List ℕ → List (List ℕ)
lines_in [] = []
lines_in (c ∷ bytes) = if c == 10 then [] ∷ lines_in bytes else onto_line c (lines_in bytes)

-- the byte is put in front of the rest, where no line stands between
abbrev pub onto_rest : ℕ → List (List ℕ) → List ℕ → List ℕ
onto_rest c [] rest = c ∷ rest
onto_rest c (text ∷ texts) rest = rest

-- what stands behind the last line feed, or all bytes where there is none
abbrev pub rest_in : List ℕ → List ℕ
rest_in [] = []
rest_in (c ∷ bytes)
    = if c == 10 then rest_in bytes else onto_rest c (lines_in bytes) (rest_in bytes)
