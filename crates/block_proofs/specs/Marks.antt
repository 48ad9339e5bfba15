-- Numbers that are marked in a list.
use Rattle.std.specs.Prelude.{◌≡◌, ℕ, ◌<◌, Bool, true, false, List, length, All, slice_index_or}

-- the list marks the number
abbrev pub IsMarked : List Bool → ℕ → Type 0
IsMarked marks number = slice_index_or marks number false ≡ true

-- the numbers are marked, as far as the list reaches, and what was marked still is
pub record AreMarked (numbers : List ℕ) (before after : List Bool) : Type 0 where
  pub length_kept : length after ≡ length before
  pub kept : (number : ℕ) → IsMarked before number → IsMarked after number
  pub each : All (λ number. number < length after → IsMarked after number) numbers
