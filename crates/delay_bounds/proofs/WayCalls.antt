-- What the tests of finite paths give.
use Rattle.std.proofs.Common.{◌≡◌, inl, inr, ℕ, zero, suc, ◌+◌, ◌-◌, ◌<◌, ◌≤◌, Bool, false, List, [], length, get_or, refl, sym, subst, arith}
use Rattle.std.specs.Prelude.{IsTrue, ◌↔◌}
use Rattle.std.proofs.lemmas.Bool.{cases_lt, false≢true}
use Rattle.kripke_model.specs.System.{System, State}
use Rattle.kripke_model.specs.Step.{Step}
use Rattle.delay_bounds.specs.Shows.{Waits}

-- the states before place i step to the next one
abbrev pub StepTo : System → List State → ℕ → Type 0
StepTo m way i = (k : ℕ) → k + 1 < i → Step m (get_or way k []) (get_or way (k + 1) [])

module _ (m : System) (way : List State) (i : ℕ) (s t : State) (some : 1 ≤ i) (s_is : s ≡ get_or way (i - 1) []) (t_is : t ≡ get_or way i []) where
  pub steps_more : StepTo m way i → Step m s t → StepTo m way (i + 1)
  steps_more old step k l = elim (cases_lt (k + 1) i) [
    | inl before ↦ old k before
    | inr beyond ↦ (let e : i - 1 ≡ k = omega (arith, l, some) in
        let n : i ≡ k + 1 = omega (arith, l, some) in
        subst (λ j. Step m (get_or way k []) (get_or way j [])) n (subst (λ j. Step m (get_or way j []) (get_or way i [])) e
        (subst (λ x. Step m (get_or way (i - 1) []) x) t_is (subst (λ x. Step m x t) s_is step))))
  ]

  pub step_here : i < length way → ((k : ℕ) → k + 1 < length way → Step m (get_or way k []) (get_or way (k + 1) [])) → Step m s t
  step_here l all =
      let n : i - 1 + 1 ≡ i = omega (arith, some) in
      subst (λ x. Step m x t) (sym s_is) (subst (λ x. Step m (get_or way (i - 1) []) x) (sym t_is)
      (subst (λ j. Step m (get_or way (i - 1) []) (get_or way j [])) n (all (i - 1) (omega (arith, l, some)))))

module _ (Q : State → Type 0) (way : List State) (start : ℕ) where
  pub waits_none : (steps : ℕ) (b : Bool) → steps ≡ 0 → IsTrue b ↔ (length way ≡ start + 1) → IsTrue b ↔ Waits Q way start steps
  waits_none steps b none answer = subst (λ n. IsTrue b ↔ Waits Q way start n) (sym none) answer

  pub waits_some : (steps : ℕ) (b : Bool) → (steps ≡ 0 → ⊥) → length way ≡ start + steps → IsTrue b ↔ ((j : ℕ) → start ≤ j → j < length way → Q (get_or way j []) → ⊥) → IsTrue b ↔ Waits Q way start steps
  waits_some zero b some is answer = absurd (some refl)
  waits_some (suc n) b some is answer = (λ e. (is, answer.0 e), λ w. answer.1 w.1)

  pub waits_short : (steps : ℕ) → (steps ≡ 0 → ⊥) → (length way ≡ start + steps → ⊥) → IsTrue false ↔ Waits Q way start steps
  waits_short zero some other = absurd (some refl)
  waits_short (suc n) some other = (λ e. absurd (false≢true e), λ w. absurd (other w.0))
