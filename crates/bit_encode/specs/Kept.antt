-- What each layout keeps of its parts.
use Rattle.std.specs.Prelude.{◌≡◌, ℕ, ◌<◌, ◌≤◌, List, length, slice_index}
use Rattle.bit_encode.specs.declared.TheConstants.{MAX_STATE_BITS}
use Rattle.bit_encode.specs.Code.{Coding, IsOrder, AllDistinct, first_bit, bit_count}

pub record IsLaidOut (c : Coding) (firsts : List ℕ) (bits : ℕ) : Type 0 where
  pub ordered : IsOrder (length c.types) c.order
  pub distinct : AllDistinct c.types
  pub each : length firsts ≡ length c.types
  pub places : (x : ℕ) → x < length c.types → slice_index firsts x ≡ first_bit c x
  pub total : bits ≡ bit_count c.types
  pub few : bits ≤ MAX_STATE_BITS
