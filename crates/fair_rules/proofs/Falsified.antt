-- A formula that a fair walk falsifies is false at the walk's first state.
use Rattle.std.proofs.Common.{inl, inr, ℕ, ◌+◌, ◌-◌, true, sym, subst, arith, add-zero, get_or}
use Rattle.kripke_model.specs.declared.expressions.PathOp.{PathOp}
use Rattle.kripke_model.specs.Ctl.{Ctl, formula_of}
use Rattle.kripke_model.specs.System.{System, State, Condition}
use Rattle.kripke_model.specs.Step.{Step}
use Rattle.kripke_model.specs.Evaluation.{Holds}
use Rattle.kripke_model.specs.Falsifies.{FalsifiesFrom}
use Rattle.kripke_model.specs.Truth.{FreeSat, Sat}
use Rattle.kripke_model.specs.Walk.{IsFairWalk}
use Rattle.fair_rules.proofs.WalkLaw.{walk_law}

module _ (m : System) (w : ℕ → State) (fair : IsFairWalk m w) where
  -- the walk from place i on
  abbrev onward : ℕ → ℕ → State
  onward i n = w (i + n)

  onward_fair : (i : ℕ) → IsFairWalk m (onward i)
  onward_fair i = record {
    states = λ n. fair.states (i + n);
    steps = λ n. subst (λ k. Step m (w (i + n)) (w k)) (omega arith) (fair.steps (i + n));
    met = λ k c h n.
        let r = fair.met k c h (i + n) in
        (r.0 - i, omega (arith, r.1), subst (λ x. Met k c (w x)) (omega (arith, r.1)) r.2);
  }
    where
      Met : ℕ → Condition → State → Type 0
      Met k c s = FreeSat m (formula_of (get_or m.constraints k c).expr) s

  here : (f : Ctl) (i : ℕ) → Sat m f (w i) → Sat m f (onward i 0)
  here f i sat = subst (λ k. Sat m f (w k)) (sym (add-zero i)) sat

  pub falsified_false : (f : Ctl) (i : ℕ) → FalsifiesFrom m w f i → Sat m f (w i) → ⊥
  falsified_false (Ctl.Leaf e) i h sat = h sat
  falsified_false (Ctl.And f g) i h sat = elim h [ inl x ↦ falsified_false f i x sat.0 | inr y ↦ falsified_false g i y sat.1 ]
  falsified_false (Ctl.Or (Ctl.Leaf e) g) i h sat = elim sat [ inl x ↦ h.0 x | inr y ↦ falsified_false g i h.1 y ]
  falsified_false (Ctl.Implies (Ctl.Leaf e) g) i h sat = falsified_false g i h.1 (sat h.0)
  falsified_false (Ctl.Quant PathOp.AX f) i h sat =
      falsified_false f (i + 1) h (walk_law m (onward i) (onward_fair i) (Ctl.Quant PathOp.AX f) (here (Ctl.Quant PathOp.AX f) i sat))
  falsified_false (Ctl.Quant PathOp.AG f) i (j, later, x) sat =
      falsified_false f j x (subst (λ k. Sat m f (w k)) (omega (arith, later)) (walk_law m (onward i) (onward_fair i) (Ctl.Quant PathOp.AG f) (here (Ctl.Quant PathOp.AG f) i sat) (j - i)))
  falsified_false (Ctl.Quant PathOp.AF (Ctl.Leaf e)) i h sat =
      let c = walk_law m (onward i) (onward_fair i) (Ctl.Quant PathOp.AF (Ctl.Leaf e)) (here (Ctl.Quant PathOp.AF (Ctl.Leaf e)) i sat) in
      h (i + c.0) (omega arith) c.1
  falsified_false (Ctl.Until true (Ctl.Leaf d) (Ctl.Leaf e)) i h sat =
      let c = walk_law m (onward i) (onward_fair i) (Ctl.Until true (Ctl.Leaf d) (Ctl.Leaf e)) (here (Ctl.Until true (Ctl.Leaf d) (Ctl.Leaf e)) i sat) in
      let k = h (i + c.0) (omega arith) c.1 in
      k.3 (subst (λ x. Holds m d (w x) (w x)) (omega (arith, k.1)) (c.2 (k.0 - i) (omega (arith, k.1, k.2))))
  falsified_false f i h sat = absurd h
