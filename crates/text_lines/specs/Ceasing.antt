-- Why bytes are refused: at which line they cease to begin anything that could stand there.
use Rattle.std.specs.Prelude.{◌≡◌, ℕ, ◌+◌, ◌<◌, ◌≤◌, List, length, take}
use Rattle.text_lines.specs.WholeLines.{IsCut}

-- the text isn't too long, and has these whole lines, and behind them a rest without a line feed
pub record HasLines (most : ℕ) (bytes : List ℕ) (lines : List (List ℕ))
    (rest : List ℕ) : Type 0 where
  pub short : length bytes ≤ most
  pub whole : IsCut bytes lines rest

module _ (Begins : List (List ℕ) → Type 0) where
  -- the first k lines begin something, and with the next one they begin nothing
  pub record CeasesAt (texts : List (List ℕ)) (k : ℕ) : Type 0 where
    pub within : k < length texts
    pub before : Begins (take k texts)
    pub after : Begins (take (k + 1) texts) → ⊥

  -- All whole lines begin something, but the text is nothing whole: it ends too early, or bytes are
  -- left. Line l, counted from 1, stands behind the whole ones.
  pub record IsCutOff {X : Type 0} (Spells : X → Type 0) (most : ℕ) (bytes : List ℕ)
      (l : ℕ) : Type 0 where
    pub texts : List (List ℕ)
    pub rest : List ℕ
    pub has : HasLines most bytes texts rest
    pub begins : Begins texts
    pub none : (x : X) → Spells x → ⊥
    pub line : l ≡ length texts + 1

-- ---- laws of what bytes spell, and of why they are refused

module _ {X R : Type 0} (Spells : X → Type 0) (Refuses : R → Type 0) where
  -- they are refused for one reason at most, and they spell something or are refused
  pub record AreRefusedOnce : Type 0 where
    pub one_reason : (r q : R) → Refuses r → Refuses q → r ≡ q
    pub not_neither : ((x : X) → Spells x → ⊥) → ((r : R) → Refuses r → ⊥) → ⊥

  -- they spell one thing at most, and are not refused then
  pub record AreReadOnce : Type 0 where
    pub one : (x y : X) → Spells x → Spells y → x ≡ y
    pub not_both : (x : X) (r : R) → Spells x → Refuses r → ⊥
