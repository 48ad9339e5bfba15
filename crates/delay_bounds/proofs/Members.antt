-- The members of a path that stand on it from a place on, which may lie behind all members.
use Rattle.std.proofs.Common.{◌≡◌, inl, inr, ℕ, zero, suc, ◌+◌, ◌<◌, ◌≤◌, min, length, refl, ◌∙◌, subst, arith}
use Rattle.kripke_model.specs.System.{State}
use Rattle.kripke_model.specs.Path.{Lasso, at, member_count}
use Rattle.trace_loop.proofs.MemberPlaces.{comes_again, member_place}
use Rattle.trace_loop.proofs.Suffixes.{le_or_lt, same_here}

module _ (p : Lasso) (loops : 0 < length p.cycle) where
  -- each state of the cycle comes again after any number of places
  comes_later : (k x : ℕ) → length p.stem ≤ x → (j : ℕ) × (x + k ≤ j) × (length p.stem ≤ j) × (at p x ≡ at p j)
  comes_later zero x le = (x, omega arith, le, refl)
  comes_later (suc k) x le =
      let r = comes_later k x le in
      (r.0 + length p.cycle, omega (arith, r.1, loops), omega (arith, r.2), r.3 ∙ same_here (at p) r.0 (r.0 + length p.cycle) (comes_again p r.0 r.2))

  module _ (bad : State → Type 0) (start first : ℕ) (is : first ≡ min start (length p.stem)) where
    pub never_from : ((n : ℕ) → first ≤ n → n < member_count p → bad (at p n) → ⊥) → (n : ℕ) → start ≤ n → bad (at p n) → ⊥
    never_from none n le here = elim (le_or_lt (length p.stem) n) [
      | inl h ↦ let k = member_place p loops n h in none k.0 (omega (arith, is, k.1)) k.2 (subst bad (same_here (at p) n k.0 k.3) here)
      | inr h ↦ none n (omega (arith, is)) (omega arith) here
    ]

    pub members_never : ((n : ℕ) → start ≤ n → bad (at p n) → ⊥) → (n : ℕ) → first ≤ n → n < member_count p → bad (at p n) → ⊥
    members_never none n le lt here = elim (le_or_lt start n) [
      | inl h ↦ none n h here
      | inr h ↦ (let j = comes_later start n (omega (arith, is)) in none j.0 (omega (arith, j.1)) (subst bad j.3 here))
    ]
