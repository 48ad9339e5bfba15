-- The level to which the exchange of neighbouring levels moves a level.
use Rattle.std.specs.Prelude.{ℕ, ◌+◌, ◌-◌, Bool, if◌then◌else◌}

-- an even level moves to the next one, and an odd one to the one before
abbrev pub neighbour_of : Bool → ℕ → ℕ
neighbour_of to_next level = if to_next then level + 1 else level - 1
