-- The claimed sets of the constraints' formulas are sets to visit and to avoid.
use Rattle.std.proofs.Common.{◌≡◌, inl, inr, ℕ, zero, suc, ◌+◌, ◌<◌, ◌≤◌, Bool, true, false, List, [], ◌∷◌, length, get_or, refl, sym, ◌∙◌, ap, subst, arith, add-zero}
use Rattle.std.proofs.lemmas.Bool.{false≢true, cases_lt}
use Rattle.kripke_model.specs.Term.{Term}
use Rattle.kripke_model.specs.Ctl.{formula_of}
use Rattle.kripke_model.specs.System.{System, State, Condition}
use Rattle.path_laws.specs.StateSet.{StateSet, ◌∈◌}
use Rattle.fair_rules.specs.SetLists.{everything, nothing, set_at}
use Rattle.fair_rules.specs.Claims.{Proof, claimed}
use Rattle.path_laws.specs.Fairness.{ConstraintHolds}
use Rattle.fair_rules.specs.ConstraintSets.{AreConstraintSets}
use Rattle.fair_rules.specs.FreePart.{claimed_from, AreFreeProofs, claimed_visited, claimed_avoided}
use Rattle.fair_rules.specs.LeafConstraints.{one_at_least}
use Rattle.fair_rules.proofs.Theorems.{free_sound}

abbrev Nowhere : ℕ → State → Type 0
Nowhere k s = ⊥

-- over all paths no constraint is asked, and one set of all states is visited
pub free_sets : (m : System) → AreConstraintSets m 0 Nowhere (everything ∷ []) (nothing ∷ [])
free_sets m = record { some = omega arith; each = omega arith; visited_true = λ k h. absurd (omega arith); avoided_false = λ k s is_state e. absurd (none k s e) }
  where
    none : (k : ℕ) (s : State) → s ∈ set_at (nothing ∷ []) k → ⊥
    none zero s e = false≢true e
    none (suc k) s e = false≢true e

length-claimed_from : (m : System) (proofs : ℕ → Proof) (sign : Bool) (k : ℕ) (cs : List Condition) → length (claimed_from m proofs sign k cs) ≡ length cs
length-claimed_from m proofs sign k [] = refl
length-claimed_from m proofs sign k (c ∷ cs) = ap suc (length-claimed_from m proofs sign (k + 1) cs)

claimed_at : (m : System) (proofs : ℕ → Proof) (sign : Bool) (start : ℕ) (cs : List Condition) (k : ℕ) (c : Condition) → k < length cs
    → set_at (claimed_from m proofs sign start cs) k ≡ claimed m (proofs (start + k)) (formula_of (get_or cs k c).expr) 1 sign
claimed_at m proofs sign start [] k c h = absurd (omega arith)
claimed_at m proofs sign start (x ∷ cs) zero c h = ap (λ i. claimed m (proofs i) (formula_of x.expr) 1 sign) (sym (add-zero start))
claimed_at m proofs sign start (x ∷ cs) (suc k) c h =
    claimed_at m proofs sign (start + 1) cs k c (omega arith) ∙ ap (λ i. claimed m (proofs i) (formula_of (get_or cs k c).expr) 1 sign) (omega arith)

module _ (m : System) (proofs : ℕ → Proof) where
  -- where there is at least one
  at_some : (set : StateSet) (sign : Bool) (k : ℕ) (c : Condition) → k < length m.constraints
      → set_at (one_at_least set (claimed_from m proofs sign 0 m.constraints)) k ≡ claimed m (proofs k) (formula_of (get_or m.constraints k c).expr) 1 sign
  at_some set sign k c h = go (claimed_from m proofs sign 0 m.constraints) (length-claimed_from m proofs sign 0 m.constraints) ∙ claimed_at m proofs sign 0 m.constraints k c h ∙ ap (λ i. claimed m (proofs i) (formula_of (get_or m.constraints k c).expr) 1 sign) (omega arith)
    where
      go : (sets : List StateSet) → length sets ≡ length m.constraints → set_at (one_at_least set sets) k ≡ set_at sets k
      go [] e = absurd (omega (arith, e, h))
      go (F ∷ sets) e = refl

  nothing_past : (k : ℕ) → length m.constraints ≤ k → set_at (claimed_avoided m proofs) k ≡ nothing
  nothing_past k h = go (claimed_from m proofs false 0 m.constraints) (length-claimed_from m proofs false 0 m.constraints)
    where
      past : (sets : List StateSet) (k : ℕ) → length sets ≤ k → set_at sets k ≡ nothing
      past [] k h = refl
      past (F ∷ sets) zero h = absurd (omega arith)
      past (F ∷ sets) (suc k) h = past sets k (omega arith)

      go : (sets : List StateSet) → length sets ≡ length m.constraints → set_at (one_at_least nothing sets) k ≡ nothing
      go [] e = only k
        where
          only : (k : ℕ) → set_at (nothing ∷ []) k ≡ nothing
          only zero = refl
          only (suc k) = refl
      go (F ∷ sets) e = past (F ∷ sets) k (omega (arith, e, h))

  long_enough : (set : StateSet) (sets : List StateSet) → (0 < length (one_at_least set sets)) × (length sets ≤ length (one_at_least set sets))
  long_enough set [] = (omega arith, omega arith)
  long_enough set (F ∷ sets) = (omega arith, omega arith)

  pub free_constraint_sets : AreFreeProofs m proofs → AreConstraintSets m (length m.constraints) (ConstraintHolds m) (claimed_visited m proofs) (claimed_avoided m proofs)
  free_constraint_sets free = record {
    some = (long_enough everything (claimed_from m proofs true 0 m.constraints)).0;
    each = omega (arith, (long_enough everything (claimed_from m proofs true 0 m.constraints)).1, length-claimed_from m proofs true 0 m.constraints);
    visited_true = λ k h s is_state inside c.
        (free_sound m Nowhere (everything ∷ []) (nothing ∷ []) (free_sets m) (proofs k) (formula_of (get_or m.constraints k c).expr) 1 (free k c h)).0 s is_state
        (subst (λ F. s ∈ F) (at_some everything true k c h) inside);
    avoided_false = λ k s is_state inside. elim (cases_lt k (length m.constraints)) [
      | inr past ↦ absurd (false≢true (subst (λ F. s ∈ F) (nothing_past k past) inside))
      | inl h ↦ (
        h,
        λ true_at.
            let c : Condition = record { expr = Term.Running 0; line = 0 } in
            (free_sound m Nowhere (everything ∷ []) (nothing ∷ []) (free_sets m) (proofs k) (formula_of (get_or m.constraints k c).expr) 1 (free k c h)).1 s is_state
            (subst (λ F. s ∈ F) (at_some nothing false k c h) inside) (true_at c),
      )
    ];
  }
