-- A fair walk leaves every layer at last.
use Rattle.std.proofs.Common.{◌≡◌, ◌⊎◌, inl, inr, ℕ, zero, suc, ◌+◌, ◌-◌, ◌<◌, ◌≤◌, List, subst, arith}
use Rattle.std.proofs.lemmas.Bool.{cases_eq}
use Rattle.kripke_model.specs.System.{System, State}
use Rattle.path_laws.specs.StateSet.{StateSet, ◌∈◌}
use Rattle.fair_rules.specs.SetLists.{IsInside, EachNext}
use Rattle.fair_rules.specs.ConstraintSets.{AreConstraintSets}
use Rattle.path_laws.specs.Fairness.{IsWalkOver}
use Rattle.fair_rules.specs.Rules.{Layer, layer_at, InSomeLayer, InEarlierLayer, Stays, AreNonfair}

module _ (m : System) (count : ℕ) (C : ℕ → State → Type 0) (visited avoided : List StateSet) (sets : AreConstraintSets m count C visited avoided)
    (layers : List Layer) (Out : State → Type 0)
    (moves : (k : ℕ) → IsInside m (layer_at layers k).states (EachNext m (λ t. Out t ⊎ (InEarlierLayer layers k t ⊎ Stays avoided layers k t))))
    (w : ℕ → State) (fair : IsWalkOver m count C w) where
  -- from place n the walk goes through layers until it is out
  abbrev pub Leaves : ℕ → Type 0
  Leaves n = (k : ℕ) × (n < k) × Out (w k) × ((j : ℕ) → n ≤ j → j < k → InSomeLayer layers (w j))

  next_of : (n k : ℕ) → w n ∈ (layer_at layers k).states → Out (w (n + 1)) ⊎ (InEarlierLayer layers k (w (n + 1)) ⊎ Stays avoided layers k (w (n + 1)))
  next_of n k here = moves k (w n) (fair.states n) here (w (n + 1)) (fair.states (n + 1)) (fair.steps n)

  out_next : (n k : ℕ) → w n ∈ (layer_at layers k).states → Out (w (n + 1)) → Leaves n
  out_next n k here out = (n + 1, omega arith, out, λ j g l. subst (λ x. InSomeLayer layers (w x)) (let e : n ≡ j = omega arith in e) (k, here))

  longer : (n k : ℕ) → w n ∈ (layer_at layers k).states → Leaves (n + 1) → Leaves n
  longer n k here (x, l, out, through) = (
    x,
    omega arith,
    out,
    λ j g h. elim (cases_eq n j) [
      | inl e ↦ subst (λ y. InSomeLayer layers (w y)) e (k, here)
      | inr apart ↦ through j (omega arith) h
    ],
  )

  module _ (k : ℕ) (lower : (i n : ℕ) → i < k → w n ∈ (layer_at layers i).states → Leaves n) where
    -- before its constraint is true again
    run : (d n : ℕ) → w n ∈ (layer_at layers k).states → C (layer_at layers k).avoided (w (n + suc d)) → Leaves n
    run zero n here true_at = elim (next_of n k here) [
      | inl out ↦ out_next n k here out
      | inr (inl (i, l, there)) ↦ longer n k here (lower i (n + 1) l there)
      | inr (inr (there, apart)) ↦ absurd ((sets.avoided_false (layer_at layers k).avoided (w (n + 1)) (fair.states (n + 1)) apart).1 (subst (λ x. C (layer_at layers k).avoided (w x)) (omega arith) true_at))
    ]
    run (suc d) n here true_at = elim (next_of n k here) [
      | inl out ↦ out_next n k here out
      | inr (inl (i, l, there)) ↦ longer n k here (lower i (n + 1) l there)
      | inr (inr (there, apart)) ↦ longer n k here (run d (n + 1) there (subst (λ x. C (layer_at layers k).avoided (w x)) (omega arith) true_at))
    ]

    -- constraint c comes true again
    again : (c n : ℕ) → c < count → (d : ℕ) × C c (w (n + suc d))
    again c n h =
        let x : (x : ℕ) × (n + 1 ≤ x) × C c (w x) = fair.met c h (n + 1) in
        (x.0 - (n + 1), subst (λ y. C c (w y)) (omega (arith, x.1)) x.2)

    leave : (n : ℕ) → w n ∈ (layer_at layers k).states → Leaves n
    leave n here = elim (next_of n k here) [
      | inl out ↦ out_next n k here out
      | inr (inl (i, l, there)) ↦ longer n k here (lower i (n + 1) l there)
      | inr (inr (there, apart)) ↦
          (let c : ℕ = (layer_at layers k).avoided in
          let h : c < count = (sets.avoided_false c (w (n + 1)) (fair.states (n + 1)) apart).0 in
          let a : (d : ℕ) × C c (w (n + 1 + suc d)) = again c (n + 1) h in
          longer n k here (run a.0 (n + 1) there a.1))
    ]

  leaves_below : (b i n : ℕ) → i < b → w n ∈ (layer_at layers i).states → Leaves n
  leaves_below zero i n h here = absurd (omega arith)
  leaves_below (suc b) i n h here = leave i (λ j x l there. leaves_below b j x (omega arith) there) n here

  pub leaves : (n : ℕ) → InSomeLayer layers (w n) → Leaves n
  leaves n (i, here) = leaves_below (suc i) i n (omega arith) here

-- no fair walk comes to a nonfair layer
pub nonfair_sound : (m : System) (n : ℕ) (C : ℕ → State → Type 0) (visited avoided : List StateSet) → AreConstraintSets m n C visited avoided
    → (layers : List Layer) → AreNonfair m avoided layers → (w : ℕ → State) → IsWalkOver m n C w → (i : ℕ) → InSomeLayer layers (w i) → ⊥
nonfair_sound m n C visited avoided sets layers nonfair w fair i here =
    (leaves m n C visited avoided sets layers (λ t. ⊥) (λ k s is_state inside t next step. inr (nonfair k s is_state inside t next step)) w fair i here).2
