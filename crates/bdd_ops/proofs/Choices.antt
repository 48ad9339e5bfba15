-- Lemmas on choices of bits.
use Rattle.std.proofs.Common.{◌≡◌, ◌≢◌, ℕ, zero, suc, ◌<◌, inl, inr, Bool, true, false, ◌||◌, cond, List, [], ◌∷◌, length, slice_index_or, refl, sym, ap, subst, ◌∙◌, arith}
use Rattle.std.proofs.lemmas.Bool.{cases_eq}
use Rattle.bdd_ops.specs.Answer.{with_bit, some_choice}
use Rattle.bdd_ops.proofs.Bits.{with_bit-same, with_bit-other, with_bit-commutes}

-- the level is none of these
abbrev pub IsAway : ℕ → List ℕ → Type 0
IsAway l ls = (k : ℕ) → k < length ls → slice_index_or ls k 0 ≢ l

-- each is below all later ones
abbrev pub Rises : List ℕ → Type 0
Rises ls = (i j : ℕ) → i < j → j < length ls → slice_index_or ls i 0 < slice_index_or ls j 0

-- the value doesn't depend on the level's bit
abbrev pub Ignores : (List Bool → Bool) → ℕ → Type 0
Ignores v l = (bits : List Bool) (b : Bool) → v (with_bit bits l b) ≡ v bits

or-same : (a : Bool) → (a || a) ≡ a
or-same true = refl
or-same false = refl

or-twice : (a b : Bool) → (a || b) ≡ ((a || a) || (b || b))
or-twice true b = refl
or-twice false true = refl
or-twice false false = refl

or-swap : (a b c d : Bool) → ((a || b) || (c || d)) ≡ ((a || c) || (b || d))
or-swap true b c d = refl
or-swap false b true d = by b
  where
    by : (x : Bool) → (x || true) ≡ true
    by true = refl
    by false = refl
or-swap false true false d = refl
or-swap false false false d = refl

or-cond : (x a b c d : Bool) → (cond x a b || cond x c d) ≡ cond x (a || c) (b || d)
or-cond true a b c d = refl
or-cond false a b c d = refl

-- a choice at levels that don't matter changes nothing
pub some_choice-ignored : (v : List Bool → Bool) (ls : List ℕ) → ((k : ℕ) → k < length ls → Ignores v (slice_index_or ls k 0)) → (bits : List Bool) → some_choice v ls bits ≡ v bits
some_choice-ignored v [] h bits = refl
some_choice-ignored v (m ∷ ms) h bits =
    (λ j. (some_choice-ignored v ms (λ k l. h (suc k) (omega arith)) (with_bit bits m false) ∙ h zero (omega arith) bits false) j
    || (some_choice-ignored v ms (λ k l. h (suc k) (omega arith)) (with_bit bits m true) ∙ h zero (omega arith) bits true) j)
    ∙ or-same (v bits)

-- a level that doesn't matter before the choice doesn't after it
pub some_choice-ignores : (v : List Bool → Bool) (l : ℕ) → Ignores v l → (ls : List ℕ) → Ignores (some_choice v ls) l
some_choice-ignores v l h [] bits b = h bits b
some_choice-ignores v l h (m ∷ ms) bits b =
    let rest : Ignores (some_choice v ms) l = λ bs c. some_choice-ignores v l h ms bs c in
    let side : (x : Bool) → some_choice v ms (with_bit (with_bit bits l b) m x) ≡ some_choice v ms (with_bit bits m x) = λ x. elim (cases_eq l m) [
      | inl e ↦ subst (λ k. some_choice v ms (with_bit (with_bit bits l b) k x) ≡ some_choice v ms (with_bit bits k x)) e (rest (with_bit bits l b) x ∙ rest bits b ∙ sym (rest bits x))
      | inr other ↦ ap (some_choice v ms) (with_bit-commutes bits l m b x other) ∙ rest (with_bit bits m x) b
    ] in
    λ j. side false j || side true j

-- a value that a level's bit chooses
abbrev pub IsBranch : ℕ → (v high low : List Bool → Bool) → Type 0
IsBranch l v high low = (bits : List Bool) → v bits ≡ cond (slice_index_or bits l false) (high bits) (low bits)

-- the choice at other levels
pub some_choice-branch : (l : ℕ) (v high low : List Bool → Bool) → IsBranch l v high low → (ls : List ℕ) → IsAway l ls → IsBranch l (some_choice v ls) (some_choice high ls) (some_choice low ls)
some_choice-branch l v high low h [] away bits = h bits
some_choice-branch l v high low h (m ∷ ms) away bits =
    let other : l ≢ m = λ e. away zero (omega arith) (sym e) in
    let side : (x : Bool) → some_choice v ms (with_bit bits m x) ≡ cond (slice_index_or bits l false) (some_choice high ms (with_bit bits m x)) (some_choice low ms (with_bit bits m x)) = λ x.
    some_choice-branch l v high low h ms (λ k inside. away (suc k) (omega arith)) (with_bit bits m x)
    ∙ ap (λ y. cond y (some_choice high ms (with_bit bits m x)) (some_choice low ms (with_bit bits m x))) (with_bit-other bits m x l other) in
    (λ j. side false j || side true j)
    ∙ or-cond (slice_index_or bits l false) (some_choice high ms (with_bit bits m false)) (some_choice low ms (with_bit bits m false)) (some_choice high ms (with_bit bits m true)) (some_choice low ms (with_bit bits m true))

-- the choice at this level among them: either side will do
pub some_choice-named : (l : ℕ) (v high low : List Bool → Bool) → IsBranch l v high low → Ignores high l → Ignores low l → (ls : List ℕ) → Rises ls → (k : ℕ) → k < length ls → slice_index_or ls k 0 ≡ l
    → (bits : List Bool) → some_choice v ls bits ≡ (some_choice low ls bits || some_choice high ls bits)
some_choice-named l v high low h a b [] rises k inside at bits = absurd (omega arith)
some_choice-named l v high low h a b (m ∷ ms) rises zero inside at bits =
    (λ j. (side false ∙ some_choice-ignores low l b ms bits false) j || (side true ∙ some_choice-ignores high l a ms bits true) j)
    ∙ or-twice (some_choice low ms bits) (some_choice high ms bits)
    ∙ sym (λ j. (same low b false j || same low b true j) || (same high a false j || same high a true j))
  where
    away : IsAway l ms
    away = λ k within e. absurd (omega (arith, rises zero (suc k) (omega arith) (omega arith), at, e))

    side : (x : Bool) → some_choice v ms (with_bit bits m x) ≡ cond x (some_choice high ms (with_bit bits l x)) (some_choice low ms (with_bit bits l x))
    side x =
        ap (λ y. some_choice v ms (with_bit bits y x)) at
        ∙ some_choice-branch l v high low h ms away (with_bit bits l x)
        ∙ ap (λ y. cond y (some_choice high ms (with_bit bits l x)) (some_choice low ms (with_bit bits l x))) (with_bit-same bits l x)

    same : (w : List Bool → Bool) → Ignores w l → (x : Bool) → some_choice w ms (with_bit bits m x) ≡ some_choice w ms bits
    same w i x = ap (λ y. some_choice w ms (with_bit bits y x)) at ∙ some_choice-ignores w l i ms bits x
some_choice-named l v high low h a b (m ∷ ms) rises (suc k) inside at bits =
    let side : (x : Bool) → some_choice v ms (with_bit bits m x) ≡ (some_choice low ms (with_bit bits m x) || some_choice high ms (with_bit bits m x)) = λ x.
    some_choice-named l v high low h a b ms (λ i j lt within. rises (suc i) (suc j) (omega arith) (omega arith)) k (omega arith) at (with_bit bits m x) in
    (λ j. side false j || side true j)
    ∙ or-swap (some_choice low ms (with_bit bits m false)) (some_choice high ms (with_bit bits m false)) (some_choice low ms (with_bit bits m true)) (some_choice high ms (with_bit bits m true))
