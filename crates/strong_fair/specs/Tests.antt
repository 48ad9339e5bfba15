-- What the test of one row answers.
use Rattle.std.specs.Prelude.{◌≡◌, ℕ, ◌+◌, ◌<◌, ◌≤◌, Option, Some, None}
use Rattle.region_sets.specs.declared.pins.Pin.{Pin}
use Rattle.region_sets.specs.Sets.{Sets, Stands}
use Rattle.strong_fair.specs.Shows.{Left}

-- a pin of what is left, where the row shows what it has to; nothing where it doesn't
abbrev pub IsLeft : Type 0 → Left → Sets → Option Pin → Type 0
IsLeft Shown Rest now (Some pin) = Shown × Stands now pin.slot Rest
IsLeft Shown Rest now None = Shown → ⊥

-- the place, from 0, of a number that counts from 1; none where there are fewer
abbrev pub IsPlace : ℕ → ℕ → Option ℕ → Type 0
IsPlace number count (Some place) = (number ≡ place + 1) × (place < count)
IsPlace number count None = 1 ≤ number → number ≤ count → ⊥
