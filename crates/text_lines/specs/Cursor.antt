-- Places in a text that is read line by line.
use Rattle.std.specs.Prelude.{◌≡◌, ℕ, ◌+◌, ◌<◌, List, [], ◌∷◌, ◌++◌, length, Option, Some, None}
use Rattle.text_lines.specs.WholeLines.{lines_in, rest_in}

-- the bytes that are left, and the number of the line that begins there
pub record Place : Type 0 where
  pub left : List ℕ
  pub line : ℕ

-- this is the next whole line, and the new place stands behind it
pub record IsTaken (old : Place) (text : List ℕ) (new : Place) : Type 0 where
  pub lines : lines_in old.left ≡ text ∷ lines_in new.left
  pub rest : rest_in new.left ≡ rest_in old.left
  pub number : new.line ≡ old.line + 1
  pub shorter : length new.left < length old.left

-- no whole line is left, and the place stays
pub record IsLast (old new : Place) : Type 0 where
  pub none : lines_in old.left ≡ []
  pub same : new ≡ old

-- what is found where a line is taken
abbrev pub Takes : Place → Option (List ℕ) → Place → Type 0
Takes old None new = IsLast old new
Takes old (Some text) new = IsTaken old text new

-- what is found where a line is looked at
abbrev pub Shows : Place → Option (List ℕ) → Type 0
Shows place None = lines_in place.left ≡ []
Shows place (Some text) = (others : List (List ℕ)) × (lines_in place.left ≡ text ∷ others)

-- the next line begins with these bytes
abbrev pub BeginsWith : List ℕ → Place → Type 0
BeginsWith front place = (rest : List ℕ) × Shows place (Some (front ++ rest))
