-- Pins that are let go.
use Rattle.std.specs.Prelude.{◌≡◌, ℕ, true, false, List, ◌++◌}
use Rattle.region_sets.specs.Sets.{Sets, AreDistinct, IsLive, is_one_of}
use Rattle.region_sets.specs.Ranks.{AreLive}

-- the slots' pins are live, and each slot stands once
pub record HasPins (now : Sets) (slots : List ℕ) : Type 0 where
  pub live : AreLive now slots
  pub once : AreDistinct slots

-- some pins of a list are let go, wherever it stands among others, and all other pins are as before
pub record Lessens (before after : Sets) (old new : List ℕ) : Type 0 where
  pub over : after.over ≡ before.over
  pub within : (k : ℕ) → is_one_of k new ≡ true → is_one_of k old ≡ true
  pub kept : (k : ℕ) → is_one_of k old ≡ false → after.pins k ≡ before.pins k
  pub held : (front behind : List ℕ) → HasPins before (front ++ (old ++ behind))
      → HasPins after (front ++ (new ++ behind))

-- each live pin stands for what it stood for
abbrev pub Keeps : Sets → Sets → Type 0
Keeps before after = (k : ℕ) → IsLive before k → after.pins k ≡ before.pins k

-- each live pin but those of a list stands for what it stood for
abbrev pub LetsGo : Sets → Sets → List ℕ → Type 0
LetsGo before after slots
    = (k : ℕ) → IsLive before k → is_one_of k slots ≡ false → after.pins k ≡ before.pins k
