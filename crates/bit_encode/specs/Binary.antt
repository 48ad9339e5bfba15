-- Numbers as lists of bits, the most significant bit first.
use Rattle.std.specs.Prelude.{ℕ, zero, suc, ◌+◌, ◌-◌, ◌^◌, nat_le, Bool, true, false, if◌then◌else◌, List, [], ◌∷◌, length}
use Rattle.std.specs.List.{position_or_len, range_with_len}

-- the number that the bits spell
unfoldable pub number : List Bool → ℕ
number [] = 0
number (bit ∷ bits) = (if bit then 2 ^ length bits else 0) + number bits

-- the list of w bits that spells n, for an n below 2 ^ w
unfoldable pub binary : ℕ → ℕ → List Bool
binary zero n = []
binary (suc w) n = if nat_le (2 ^ w) n then true ∷ binary w (n - 2 ^ w) else false ∷ binary w n

-- the least number of bits with which n values have codes of their own: the first w with n ≤ 2 ^ w
unfoldable pub width : ℕ → ℕ
width n = position_or_len (λ w. nat_le n (2 ^ w)) (range_with_len 0 n)
