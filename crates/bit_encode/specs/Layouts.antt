-- When a layout is refused, and what each layout keeps.
use Rattle.std.specs.Prelude.{◌≡◌, ℕ, ◌-◌, ◌^◌, ◌<◌, ◌≤◌, List, length, min}
use Rattle.kripke_model.specs.declared.expressions.Value.{Value}
use Rattle.bit_encode.specs.declared.TheConstants.{MAX_STATE_BITS}
use Rattle.bit_encode.specs.declared.layout.LayoutRefusal.{LayoutRefusal}
use Rattle.bit_encode.specs.declared.layout.LayoutRefusal.TheVariants.{TooManyBits, BadOrder, Memory}
use Rattle.bit_encode.specs.Code.{IsOrder, bit_count}

-- the numbers of 32 bits hold the count, or the greatest of them stands for it
abbrev pub counted : ℕ → ℕ
counted n = min n (2 ^ 32 - 1)

abbrev pub Refuses : List (List Value) → List ℕ → LayoutRefusal → Type 0
Refuses types order (TooManyBits bits)
    = (MAX_STATE_BITS < bit_count types) × (bits ≡ counted (bit_count types))
Refuses types order BadOrder
    = (bit_count types ≤ MAX_STATE_BITS) × (IsOrder (length types) order → ⊥)
Refuses types order Memory = Unit {0}

pub record Accepts (types : List (List Value)) (order : List ℕ) : Type 0 where
  pub few : bit_count types ≤ MAX_STATE_BITS
  pub ordered : IsOrder (length types) order
