-- A formula is falsified alike from places with the same states to come.
use Rattle.std.proofs.Common.{◌≡◌, ◌⊎◌, inl, inr, ℕ, ◌+◌, ◌-◌, ◌<◌, ◌≤◌, true, false, sym, ◌∙◌, ap, subst, arith, ltb, refl}
use Rattle.std.proofs.lemmas.Bool.{ltb-true, ltb-false}
use Rattle.kripke_model.specs.declared.expressions.PathOp.{PathOp}
use Rattle.kripke_model.specs.Ctl.{Ctl}
use Rattle.kripke_model.specs.Evaluation.{Holds}
use Rattle.kripke_model.specs.Falsifies.{FalsifiesFrom}
use Rattle.kripke_model.specs.System.{System, State}
use Rattle.kripke_model.specs.Term.{Term}
use Rattle.trace_loop.specs.Places.{SameFrom}

pub le_or_lt : (m n : ℕ) → (m ≤ n) ⊎ (n < m)
le_or_lt m n = elim (ltb n m) as (λ b. ltb n m ≡ b → (m ≤ n) ⊎ (n < m)) [
  | true ↦ (λ e. inr (ltb-true n m e))
  | false ↦ (λ e. inl (ltb-false n m e))
] refl

module _ (w : ℕ → State) where
  pub same_back : (x y : ℕ) → SameFrom w x y → SameFrom w y x
  same_back x y same d = sym (same d)

  pub same_then : (x y z : ℕ) → SameFrom w x y → SameFrom w y z → SameFrom w x z
  same_then x y z first second d = first d ∙ second d

  pub same_at : (x y z : ℕ) → x ≡ z → SameFrom w x y → SameFrom w z y
  same_at x y z is same = subst (λ (n : ℕ). SameFrom w n y) is same

  -- the states there are the same
  pub same_here : (x y : ℕ) → SameFrom w x y → w x ≡ w y
  same_here x y same = ap w (omega arith) ∙ same 0 ∙ ap w (omega arith)

  -- and so from any number of places later on
  pub same_later : (x y n : ℕ) → SameFrom w x y → SameFrom w (x + n) (y + n)
  same_later x y n same d = ap w (omega arith) ∙ same (n + d) ∙ ap w (omega arith)

  -- each place from y on has one from x on
  pub place_back : (x y : ℕ) → SameFrom w x y → (j : ℕ) → y ≤ j → (k : ℕ) × (x ≤ k) × (k + y ≡ j + x) × SameFrom w k j
  place_back x y same j le =
      (x + (j - y), omega arith, omega arith, λ d. same_later x y (j - y) same d ∙ ap w (omega arith))

module _ (m : System) (w : ℕ → State) where
  -- the expression is 1 at place x
  abbrev pub HoldsAt : Term → ℕ → Type 0
  HoldsAt e x = Holds m e (w x) (w x)

  pub holds_moved : (e : Term) (x y : ℕ) → x ≡ y → HoldsAt e x → HoldsAt e y
  holds_moved e x y is h = subst (λ (n : ℕ). HoldsAt e n) is h

  pub holds_same : (e : Term) (x y : ℕ) → SameFrom w x y → HoldsAt e x → HoldsAt e y
  holds_same e x y same h = subst (λ (s : State). Holds m e s s) (same_here w x y same) h

  pub falsified_same : (f : Ctl) (x y : ℕ) → SameFrom w x y → FalsifiesFrom m w f x → FalsifiesFrom m w f y
  falsified_same (Ctl.Leaf e) x y same fails = λ h. fails (holds_same e y x (same_back w x y same) h)
  falsified_same (Ctl.And f g) x y same (inl h) = inl (falsified_same f x y same h)
  falsified_same (Ctl.And f g) x y same (inr h) = inr (falsified_same g x y same h)
  falsified_same (Ctl.Or (Ctl.Leaf e) g) x y same fails =
      (λ h. fails.0 (holds_same e y x (same_back w x y same) h), falsified_same g x y same fails.1)
  falsified_same (Ctl.Implies (Ctl.Leaf e) g) x y same fails =
      (holds_same e x y same fails.0, falsified_same g x y same fails.1)
  falsified_same (Ctl.Quant PathOp.AX f) x y same fails = falsified_same f (x + 1) (y + 1) (same_later w x y 1 same) fails
  falsified_same (Ctl.Quant PathOp.AG f) x y same fails =
      let p = place_back w y x (same_back w x y same) fails.0 fails.1 in
      (p.0, p.1, falsified_same f fails.0 p.0 (same_back w p.0 fails.0 p.3) fails.2)
  falsified_same (Ctl.Quant PathOp.AF (Ctl.Leaf e)) x y same fails = λ j le h.
      let p = place_back w x y same j le in
      fails p.0 p.1 (holds_same e j p.0 (same_back w p.0 j p.3) h)
  falsified_same (Ctl.Until true (Ctl.Leaf d) (Ctl.Leaf e)) x y same fails = λ j le h.
      let p = place_back w x y same j le in
      let r = fails p.0 p.1 (holds_same e j p.0 (same_back w p.0 j p.3) h) in
      let q = place_back w y x (same_back w x y same) r.0 r.1 in
      (q.0, q.1, omega (arith, p.2, q.2, r.2), λ k. r.3 (holds_same d q.0 r.0 q.3 k))
  falsified_same f x y same fails = absurd fails
