-- Among more places than values, two places have one value.
use Rattle.std.proofs.Common.{◌≡◌, ◌⊎◌, inl, inr, ℕ, zero, suc, ◌-◌, ◌<◌, ◌≤◌, cond, ltb, true, false, Bool, List, length, get_or, min, Contains, refl, sym, ◌∙◌, ap, subst, arith}
use Rattle.std.proofs.lemmas.List.{get_or_default}
use Rattle.path_laws.specs.StateCount.{Collision}
use Rattle.std.proofs.lemmas.Bool.{cases_eq, ltb-true, ltb-false}

-- whether some number below n has the value
find_value : (f : ℕ → ℕ) (n v : ℕ) → ((i : ℕ) × (i < n) × (f i ≡ v)) ⊎ ((i : ℕ) → i < n → f i ≡ v → ⊥)
find_value f zero v = inr (λ i h. absurd (omega arith))
find_value f (suc n) v = go (find_value f n v) (cases_eq (f n) v)
  where
    go : ((i : ℕ) × (i < n) × (f i ≡ v)) ⊎ ((i : ℕ) → i < n → f i ≡ v → ⊥) → (f n ≡ v) ⊎ (f n ≡ v → ⊥) → ((i : ℕ) × (i < suc n) × (f i ≡ v)) ⊎ ((i : ℕ) → i < suc n → f i ≡ v → ⊥)
    go (inl w) here = inl (w.0, omega (arith, w.1), w.2)
    go (inr none) (inl e) = inl (n, omega arith, e)
    go (inr none) (inr other) = inr (λ i h e. elim (cases_eq i n) [
      | inl same ↦ other (subst (λ k. f k ≡ v) same e)
      | inr apart ↦ none i (omega arith) e
    ])

-- the values above v moved down by one
abbrev lowered : ℕ → ℕ → ℕ
lowered v x = cond (ltb v x) (x - 1) x

lowered_cases : (v x : ℕ) → ((v < x) × (lowered v x ≡ x - 1)) ⊎ ((x ≤ v) × (lowered v x ≡ x))
lowered_cases v x = go (ltb v x) refl
  where
    go : (b : Bool) → ltb v x ≡ b → ((v < x) × (cond b (x - 1) x ≡ x - 1)) ⊎ ((x ≤ v) × (cond b (x - 1) x ≡ x))
    go true e = inl (ltb-true v x e, refl)
    go false e = inr (ltb-false v x e, refl)

lowered_same : (v x y : ℕ) → (x ≡ v → ⊥) → (y ≡ v → ⊥) → lowered v x ≡ lowered v y → x ≡ y
lowered_same v x y p q e = go (lowered_cases v x) (lowered_cases v y)
  where
    go : ((v < x) × (lowered v x ≡ x - 1)) ⊎ ((x ≤ v) × (lowered v x ≡ x)) → ((v < y) × (lowered v y ≡ y - 1)) ⊎ ((y ≤ v) × (lowered v y ≡ y)) → x ≡ y
    go (inl a) (inl b) = let e' : x - 1 ≡ y - 1 = sym a.1 ∙ e ∙ b.1 in omega (arith, a.0, b.0)
    go (inl a) (inr b) = let e' : x - 1 ≡ y = sym a.1 ∙ e ∙ b.1 in absurd (q (omega (arith, a.0, b.0)))
    go (inr a) (inl b) = let e' : x ≡ y - 1 = sym a.1 ∙ e ∙ b.1 in absurd (p (omega (arith, a.0, b.0)))
    go (inr a) (inr b) = sym a.1 ∙ e ∙ b.1

lowered_small : (v x n : ℕ) → v < suc n → x < suc n → (x ≡ v → ⊥) → lowered v x < n
lowered_small v x n h l apart = go (lowered_cases v x)
  where
    go : ((v < x) × (lowered v x ≡ x - 1)) ⊎ ((x ≤ v) × (lowered v x ≡ x)) → lowered v x < n
    go (inl a) = omega (arith, a.0, a.1)
    go (inr a) = omega (arith, a.0, a.1)

-- n + 1 places with values below n
pub pigeonhole : (n : ℕ) (f : ℕ → ℕ) → ((i : ℕ) → i ≤ n → f i < n) → Collision f n
pigeonhole zero f small = absurd (omega (arith, small 0 (omega arith)))
pigeonhole (suc n) f small = go (find_value f (suc n) (f (suc n))) (pigeonhole n (λ i. lowered (f (suc n)) (f i)))
  where
    go : ((i : ℕ) × (i < suc n) × (f i ≡ f (suc n))) ⊎ ((i : ℕ) → i < suc n → f i ≡ f (suc n) → ⊥)
        → (((i : ℕ) → i ≤ n → lowered (f (suc n)) (f i) < n) → Collision (λ i. lowered (f (suc n)) (f i)) n)
        → Collision f (suc n)
    go (inl w) rest = (w.0, suc n, w.1, omega arith, w.2)
    go (inr none) rest =
        let c : Collision (λ i. lowered (f (suc n)) (f i)) n = rest (λ i h. lowered_small (f (suc n)) (f i) n (small (suc n) (omega arith)) (small i (omega arith)) (none i (omega arith))) in
        (c.0, c.1, c.2, omega (arith, c.3), lowered_same (f (suc n)) (f c.0) (f c.1) (none c.0 (omega (arith, c.2, c.3))) (none c.1 (omega (arith, c.3))) c.4)

-- n + 1 places whose values stand in a list of length n
module _ {X : Type 0} (xs : List X) (f : ℕ → X) (listed : (i : ℕ) → i ≤ length xs → Contains xs (f i)) where
  place : (i : ℕ) → Contains xs (f (min i (length xs)))
  place i = listed (min i (length xs)) (omega arith)

  at_place : (i : ℕ) (d : X) → i ≤ length xs → f i ≡ get_or xs (place i).0 d
  at_place i d h =
      let p = place i in
      let e : i ≡ min i (length xs) = omega arith in
      ap f e ∙ sym p.2 ∙ get_or_default xs p.0 (f (min i (length xs))) d p.1

  pub list_repeats : Collision f (length xs)
  list_repeats =
      let c : Collision (λ i. (place i).0) (length xs) = pigeonhole (length xs) (λ i. (place i).0) (λ i h. (place i).1) in
      let d : X = f 0 in
      let first : f c.0 ≡ get_or xs (place c.0).0 d = at_place c.0 d (omega (arith, c.2, c.3)) in
      let second : f c.1 ≡ get_or xs (place c.1).0 d = at_place c.1 d c.3 in
      (c.0, c.1, c.2, c.3, first ∙ ap (λ k. get_or xs k d) c.4 ∙ sym second)
