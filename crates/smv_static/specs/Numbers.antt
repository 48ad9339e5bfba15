-- Tables of numbers.
use Rattle.std.specs.Prelude.{ℕ, ◌<◌, List, [], Contains}
use Rattle.std.specs.List.{slice_index_or}

-- a row of a table, and none where there is no such row
abbrev pub row : List (List ℕ) → ℕ → List ℕ
row rows x = slice_index_or rows x []

-- each number in the table is below count
abbrev pub IsBelow : ℕ → List (List ℕ) → Type 0
IsBelow count rows = (x y : ℕ) → Contains (row rows x) y → y < count
