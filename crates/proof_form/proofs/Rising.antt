-- A list rises where each element comes before the next one.
use Rattle.std.proofs.Common.{◌≡◌, inl, inr, ℕ, zero, suc, ◌+◌, ◌-◌, ◌<◌, ◌≤◌, List, length, get_or, AllPairs, sym, ◌∙◌, subst, add-one, arith}
use Rattle.std.proofs.lemmas.List.{get_or_default}
use Rattle.std.proofs.lemmas.Bool.{cases_lt}

module _ {X : Type 0} (R : X → X → Type 0) where
  -- each of the first n elements comes before the next one
  abbrev pub Neighbours : List X → ℕ → Type 0
  Neighbours xs n = (k : ℕ) (d : X) → k + 1 < n → R (get_or xs k d) (get_or xs (k + 1) d)

  module _ (xs : List X) where
    pub none_stand : Neighbours xs 1
    none_stand k d lt = absurd (omega (arith, lt))

    module _ (i : ℕ) (a b : X) (some : 1 ≤ i) (lt : i < length xs) (left : a ≡ get_or xs (i - 1) a) (right : b ≡ get_or xs i b) where
      left_at : (d : X) → a ≡ get_or xs (i - 1) d
      left_at d = left ∙ get_or_default xs (i - 1) a d (omega (arith, some, lt))

      right_at : (d : X) → b ≡ get_or xs i d
      right_at d = right ∙ get_or_default xs i b d lt

      pub one_more : R a b → Neighbours xs i → Neighbours xs (i + 1)
      one_more r before k d less = elim (cases_lt (k + 1) i) [
        | inl inner ↦ before k d inner
        | inr outer ↦
            let place : k + 1 ≡ i = omega (arith, less, outer) in
            let first : i - 1 ≡ k = omega (arith, place) in
            subst (λ n. R (get_or xs k d) (get_or xs n d)) (sym place) (subst (λ n. R (get_or xs n d) (get_or xs i d)) first
            (subst (λ x. R x (get_or xs i d)) (left_at d) (subst (R a) (right_at d) r)))
      ]

      -- and a list that rises has them so
      pub stand_so : AllPairs R xs → R a b
      stand_so rising = subst (R a) (sym (right_at a)) (subst (λ x. R x (get_or xs i a)) (sym (left_at a)) (rising (i - 1) i a (omega (arith, some)) lt))

    module _ (through : (a b c : X) → R a b → R b c → R a c) (i : ℕ) (over : length xs ≤ i) (before : Neighbours xs i) where
      next : (j : ℕ) (d : X) → suc j < length xs → R (get_or xs j d) (get_or xs (suc j) d)
      next j d lt = subst (λ n. R (get_or xs j d) (get_or xs n d)) (add-one j) (before j d (omega (arith, lt, over)))

      pub rises : AllPairs R xs
      rises i zero d lt below = absurd (omega (arith, lt))
      rises i (suc j) d lt below = elim (cases_lt i j) [
        | inl less ↦ through _ _ _ (rises i j d less (omega (arith, below))) (next j d below)
        | inr same ↦ subst (λ n. R (get_or xs n d) (get_or xs (suc j) d)) (let e : j ≡ i = omega (arith, lt, same) in e) (next j d below)
      ]
