-- A text before and behind a byte.
use Rattle.std.specs.Prelude.{◌≡◌, ℕ, List, ◌∷◌, ◌++◌, Contains}

-- the first such byte stands between these
pub record IsParted (stop : ℕ) (text before behind : List ℕ) : Type 0 where
  pub whole : text ≡ before ++ stop ∷ behind
  pub first : Contains before stop → ⊥
