-- The levels of a variable's bits, and the number that they spell.
use Rattle.std.specs.Prelude.{ℕ, zero, suc, ◌+◌, ◌*◌, Bool, false, if◌then◌else◌, List, [], ◌∷◌}
use Rattle.std.specs.List.{slice_index_or}
use Rattle.bit_encode.specs.Binary.{number}
use Rattle.bit_encode.specs.Code.{Coding, width_of, bit_place}

-- the level of bit b of variable x in the current or in the next state
abbrev pub level_at : Coding → Bool → ℕ → ℕ → ℕ
level_at c next x b = 2 * bit_place c x b + (if next then 1 else 0)

-- m bits of variable x from bit b on
abbrev pub bits_from : Coding → Bool → ℕ → List Bool → ℕ → ℕ → List Bool
bits_from c next x bits b zero = []
bits_from c next x bits b (suc m)
    = slice_index_or bits (level_at c next x b) false ∷ bits_from c next x bits (b + 1) m

-- the number that the bits of variable x spell in the current or in the next state
abbrev pub spelled_by : Coding → Bool → List Bool → ℕ → ℕ
spelled_by c next bits x = number (bits_from c next x bits 0 (width_of c.types x))
