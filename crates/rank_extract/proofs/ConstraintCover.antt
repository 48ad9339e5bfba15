-- What is claimed of the constraints' formulas has the states of the sets by which a run was made.
use Rattle.std.proofs.Common.{◌≡◌, inl, inr, ℕ, zero, suc, ◌+◌, ◌<◌, ◌≤◌, Bool, true, false, not, List, [], ◌∷◌, length, map, get_or, refl, sym, ◌∙◌, ap, subst, arith, add-zero}
use Rattle.std.proofs.lemmas.Bool.{false≢true, cases_lt, not-true}
use Rattle.std.proofs.lemmas.List.{get_or_past, length-map}
use Rattle.kripke_model.specs.Ctl.{formula_of}
use Rattle.kripke_model.specs.Step.{IsState}
use Rattle.kripke_model.specs.System.{System, State, Condition, constraint_count}
use Rattle.kripke_model.specs.Term.{Term}
use Rattle.kripke_model.specs.Truth.{FreeSat}
use Rattle.path_laws.specs.StateSet.{StateSet, ◌∈◌}
use Rattle.fair_rules.specs.SetLists.{everything, nothing, set_at, IsInside}
use Rattle.fair_rules.specs.Claims.{Proof, claimed}
use Rattle.fair_rules.specs.FreePart.{claimed_from, claimed_visited, claimed_avoided}
use Rattle.fair_rules.specs.LeafConstraints.{one_at_least}
use Rattle.fair_fixpoint.specs.Fairness.{AreConstraints}
use Rattle.fair_fixpoint.specs.Runs.{complement}
use Rattle.fair_fixpoint.proofs.FairStates.{true_at, meets_none}
use Rattle.fair_fixpoint.proofs.Taking.{complement_at}

module _ (m : System) (proofs : ℕ → Proof) where
  -- ---- the claimed sets by place

  length_from : (sign : Bool) (k : ℕ) (cs : List Condition) → length (claimed_from m proofs sign k cs) ≡ length cs
  length_from sign k [] = refl
  length_from sign k (c ∷ cs) = ap suc (length_from sign (k + 1) cs)

  from_at : (sign : Bool) (start : ℕ) (cs : List Condition) (k : ℕ) (c : Condition) → k < length cs
      → set_at (claimed_from m proofs sign start cs) k ≡ claimed m (proofs (start + k)) (formula_of (get_or cs k c).expr) 1 sign
  from_at sign start [] k c h = absurd (omega arith)
  from_at sign start (x ∷ cs) zero c h = ap (λ i. claimed m (proofs i) (formula_of x.expr) 1 sign) (sym (add-zero start))
  from_at sign start (x ∷ cs) (suc k) c h =
      from_at sign (start + 1) cs k c (omega arith) ∙ ap (λ i. claimed m (proofs i) (formula_of (get_or cs k c).expr) 1 sign) (omega arith)

  -- where there are constraints
  pub claimed_at : (set : StateSet) (sign : Bool) (k : ℕ) (c : Condition) → k < length m.constraints
      → set_at (one_at_least set (claimed_from m proofs sign 0 m.constraints)) k ≡ claimed m (proofs k) (formula_of (get_or m.constraints k c).expr) 1 sign
  claimed_at set sign k c h =
      go (claimed_from m proofs sign 0 m.constraints) (length_from sign 0 m.constraints) ∙ from_at sign 0 m.constraints k c h
      ∙ ap (λ i. claimed m (proofs i) (formula_of (get_or m.constraints k c).expr) 1 sign) (omega arith)
    where
      go : (sets : List StateSet) → length sets ≡ length m.constraints → set_at (one_at_least set sets) k ≡ set_at sets k
      go [] e = absurd (omega (arith, e, h))
      go (F ∷ sets) e = refl

  -- and where there are none
  none_at : (set : StateSet) (sign : Bool) → length m.constraints ≡ 0 → set_at (one_at_least set (claimed_from m proofs sign 0 m.constraints)) 0 ≡ set
  none_at set sign none = go (claimed_from m proofs sign 0 m.constraints) (length_from sign 0 m.constraints)
    where
      go : (sets : List StateSet) → length sets ≡ length m.constraints → set_at (one_at_least set sets) 0 ≡ set
      go [] e = refl
      go (F ∷ sets) e = absurd (omega (arith, e, none))

  how_many : length (claimed_visited m proofs) ≤ constraint_count m
  how_many = go (claimed_from m proofs true 0 m.constraints) (length_from true 0 m.constraints)
    where
      go : (sets : List StateSet) → length sets ≡ length m.constraints → length (one_at_least everything sets) ≤ constraint_count m
      go [] e = omega arith
      go (F ∷ sets) e = omega (arith, e)

  module _ (visited : List StateSet) (constraints : AreConstraints m visited)
      (true_there : (k : ℕ) (c : Condition) → k < length m.constraints → (s : State) → IsState m s
      → FreeSat m (formula_of (get_or m.constraints k c).expr) s → s ∈ claimed m (proofs k) (formula_of (get_or m.constraints k c).expr) 1 true)
      (false_there : (k : ℕ) (c : Condition) → k < length m.constraints → (s : State) → IsState m s
      → (FreeSat m (formula_of (get_or m.constraints k c).expr) s → ⊥) → s ∈ claimed m (proofs k) (formula_of (get_or m.constraints k c).expr) 1 false) where
    pub no_more : length (claimed_visited m proofs) ≤ length visited
    no_more = omega (arith, how_many, constraints.count)

    abbrev any : Condition
    any = record { expr = Term.Running 0; line = 0 }

    only_first : (k : ℕ) → k < length visited → length m.constraints ≤ k → (0 ≡ k) × (length m.constraints ≡ 0)
    only_first k lt none = (omega (arith, lt, none, constraints.count), omega (arith, lt, none, constraints.count))

    pub visits_covered : (k : ℕ) → IsInside m (set_at visited k) (λ s. s ∈ set_at (claimed_visited m proofs) k)
    visits_covered k s is_state e = elim (cases_lt k (length visited)) [
      | inr past ↦ absurd (false≢true (subst (λ F. s ∈ F) (get_or_past visited k nothing past) e))
      | inl lt ↦ elim (cases_lt k (length m.constraints)) [
        | inl there ↦ subst (λ F. s ∈ F) (sym (claimed_at everything true k any there))
            (true_there k any there s is_state ((true_at m k s there).0 ((constraints.each k lt s).0 e).1 any))
        | inr none ↦ (let o = only_first k lt none in subst (λ j. s ∈ set_at (claimed_visited m proofs) j) o.0 (subst (λ F. s ∈ F) (sym (none_at everything true o.1)) refl))
      ]
    ]

    pub avoids_covered : (k : ℕ) → IsInside m (set_at (map complement visited) k) (λ s. s ∈ set_at (claimed_avoided m proofs) k)
    avoids_covered k s is_state e = elim (cases_lt k (length visited)) [
      | inr past ↦ absurd (false≢true (subst (λ F. s ∈ F) (get_or_past (map complement visited) k nothing (omega (arith, past, length-map visited complement))) e))
      | inl lt ↦ (let out : not (set_at visited k s) ≡ true = subst (λ F. s ∈ F) (complement_at visited k lt) e in
          elim (cases_lt k (length m.constraints)) [
            | inl there ↦ subst (λ F. s ∈ F) (sym (claimed_at nothing false k any there))
                (false_there k any there s is_state (λ holds. false≢true (sym (not-true (set_at visited k s) out) ∙ (constraints.each k lt s).1 (is_state, (true_at m k s there).1 (at_any k there s holds)))))
            | inr none ↦ absurd (false≢true (sym (not-true (set_at visited k s) out) ∙ (constraints.each k lt s).1 (is_state, meets_none m.constraints m k s none)))
          ])
    ]
      where
        at_any : (k : ℕ) → k < length m.constraints → (s : State) → FreeSat m (formula_of (get_or m.constraints k any).expr) s → (d : Condition) → FreeSat m (formula_of (get_or m.constraints k d).expr) s
        at_any k lt s holds d = subst (λ (c : Condition). FreeSat m (formula_of c.expr) s) (same m.constraints k lt) holds
          where
            same : (cs : List Condition) (k : ℕ) → k < length cs → get_or cs k any ≡ get_or cs k d
            same [] k lt = absurd (omega arith)
            same (c ∷ cs) zero lt = refl
            same (c ∷ cs) (suc k) lt = same cs k (omega arith)
