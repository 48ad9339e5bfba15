-- The least place of an assignment with a property.
use Rattle.std.proofs.Common.{◌≡◌, ℕ, ◌+◌, ◌<◌, ◌≤◌, ◌⊎◌, inl, inr, ⊎_elim, List, ◌++◌, get_or, sym, subst, arith, below_more}
use Rattle.std.specs.Prelude.{Contains}
use Rattle.std.proofs.lemmas.List.Elements.{Contains-append_left, Contains-append_right, Contains-append_cases}
use Rattle.kripke_model.specs.System.{System, Assignment}
use Rattle.kripke_model.specs.Static.{Graph}
use Rattle.smv_static.specs.Circles.{HoldsOf, IsLeastAmong, IsFound, IsClear}

module _ (C : Assignment → Type 0) (assigns : List Assignment) where
  -- one more place
  module _ (places : List ℕ) (bound least k new : ℕ) (item : Assignment) (at : (d : Assignment) → get_or assigns k d ≡ item) (step : (new ≡ least) × (k < least → C item → ⊥) ⊎ (new ≡ k) × (k < least) × C item) where
    pub step_at_most : least ≤ bound → new ≤ bound
    step_at_most l = elim step [ inl h ↦ let e = h.0 in omega arith | inr h ↦ let e = h.0 in let f = h.1 in omega arith ]

    pub step_holds : Contains places k → (least ≡ bound) ⊎ Contains places least × HoldsOf C assigns least → (new ≡ bound) ⊎ Contains places new × HoldsOf C assigns new
    step_holds place old =
        let M : ℕ → Type 0 = λ l. (l ≡ bound) ⊎ Contains places l × HoldsOf C assigns l in
        elim step [ inl h ↦ subst M (sym h.0) old | inr h ↦ subst M (sym h.0) (inr (place, λ d. subst C (sym (at d)) h.2)) ]

    pub step_none : (i : ℕ) → get_or places i 0 ≡ k → ((j : ℕ) → j < i → get_or places j 0 < least → HoldsOf (λ a. C a → ⊥) assigns (get_or places j 0))
        → (j : ℕ) → j < i + 1 → get_or places j 0 < new → HoldsOf (λ a. C a → ⊥) assigns (get_or places j 0)
    step_none i here old = below_more (λ (j : ℕ). get_or places j 0 < new → HoldsOf (λ a. C a → ⊥) assigns (get_or places j 0)) i earlier last
      where
        earlier : (j : ℕ) → j < i → get_or places j 0 < new → HoldsOf (λ a. C a → ⊥) assigns (get_or places j 0)
        earlier j l less = old j l (elim step [ inl h ↦ let e = h.0 in omega arith | inr h ↦ let e = h.0 in let f = h.1 in omega arith ])

        last : get_or places i 0 < new → HoldsOf (λ a. C a → ⊥) assigns (get_or places i 0)
        last less d = elim step [
          | inl h ↦ let e = h.0 in λ c. h.1 (omega arith) (subst C (at d) (subst (λ (z : ℕ). C (get_or assigns z d)) here c))
          | inr h ↦ let e = h.0 in absurd (omega arith)
        ]

  -- first among these places, then among those
  pub among_both : (xs ys : List ℕ) (bound mid least : ℕ) → IsLeastAmong C assigns xs bound mid → IsLeastAmong C assigns ys mid least → IsLeastAmong C assigns (xs ++ ys) bound least
  among_both xs ys bound mid least a b =
      let M : ℕ → Type 0 = λ l. (l ≡ bound) ⊎ Contains (xs ++ ys) l × HoldsOf C assigns l in
      let below : least ≤ mid = b.at_most in
      record {
        at_most = let l = a.at_most in omega arith;
        holds = ⊎_elim (λ same. subst M (sym same) (⊎_elim (λ e. inl e) (λ h. inr (Contains-append_left xs ys mid h.0, h.1)) a.holds)) (λ h. inr (Contains-append_right xs ys least h.0, h.1)) b.holds;
        none = λ k place less. ⊎_elim (λ p. a.none k p (omega arith)) (λ p. b.none k p less) (Contains-append_cases xs ys k place);
      }

module _ (m : System) where
  pub clear_less : (g : Graph) (least new : ℕ) → new ≤ least → IsClear m g least → IsClear m g new
  clear_less g least new l clear k less d = clear k (omega arith) d

  pub found_less : (bound least new : ℕ) → IsFound m bound least → IsFound m least new → IsFound m bound new
  found_less bound least new a b = ⊎_elim (λ same. subst (λ (l : ℕ). IsFound m bound l) (sym same) a) (λ h. inr h) b
