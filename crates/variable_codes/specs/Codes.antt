-- Which numbers a code's diagram allows.
use Rattle.std.specs.Prelude.{ℕ, Bool, true, if◌then◌else◌, nat_le, nat_eq}

-- n is k, or, where that is said, less or more
abbrev pub is_spelled : Bool → Bool → ℕ → ℕ → Bool
is_spelled less more k n
    = if nat_eq n k then true else (if nat_le n k then less else more)
