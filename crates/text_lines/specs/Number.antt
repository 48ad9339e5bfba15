-- How a number in decimal begins.
use Rattle.std.specs.Prelude.{◌≡◌, ℕ, ◌≤◌, List, length, slice_index}

-- with a digit, which is 0 only where it stands alone
pub record IsPlainStart (word : List ℕ) : Type 0 where
  pub low : 48 ≤ slice_index word 0
  pub high : slice_index word 0 ≤ 57
  pub alone : slice_index word 0 ≡ 48 → length word ≡ 1
