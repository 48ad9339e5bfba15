-- The sets of the constraints on the cycle of a path.
use Rattle.std.proofs.Common.{◌≡◌, ℕ, ◌+◌, ◌-◌, ◌<◌, ◌≤◌, List, length, get_or, sym, subst, arith}
use Rattle.std.specs.Prelude.{All, Any}
use Rattle.std.proofs.lemmas.List.{length-map, get_or-map}
use Rattle.kripke_model.specs.Path.{Lasso}
use Rattle.kripke_model.specs.Step.{IsState}
use Rattle.kripke_model.specs.System.{System, constraint_count, IsConstraint}
use Rattle.path_laws.specs.StateSet.{StateSet, ◌∈◌}
use Rattle.region_sets.specs.declared.pins.Pin.{Pin}
use Rattle.region_sets.specs.Sets.{Sets, In, has_state}
use Rattle.region_sets.specs.Ranks.{regions}
use Rattle.fair_rules.specs.SetLists.{nothing, set_at}
use Rattle.fair_fixpoint.specs.Fairness.{AreConstraints, IsTrueAt}
use Rattle.trace_check.specs.Judged.{IsFirstUnmet, MeetsOnCycle}

module _ (m : System) (now : Sets) (visits : List Pin) (sets : AreConstraints m (regions now visits)) where
  pub size : length visits ≡ constraint_count m
  size = omega (arith, sets.count, length-map visits (λ (q : Pin). has_state (now.pins q.slot)))

  set_is : (k : ℕ) (d : Pin) → k < length visits → set_at (regions now visits) k ≡ has_state (now.pins (get_or visits k d).slot)
  set_is k d less = get_or-map (λ (q : Pin). has_state (now.pins q.slot)) visits k d nothing less

  module _ (p : Lasso) (states : All (IsState m) p.cycle) where
    abbrev Visits : ℕ → Pin → Type 0
    Visits k d = Any (λ s. In now (get_or visits k d).slot s) p.cycle

    visits_meet : (k : ℕ) (d : Pin) → k < length visits → Visits k d → Any (IsTrueAt m k) p.cycle
    visits_meet k d less v =
        let h : IsState m v.1 × IsTrueAt m k v.1 = (sets.each k (omega (arith, less, length-map visits (λ (q : Pin). has_state (now.pins q.slot)))) v.1).0
        (subst (λ (F : StateSet). v.1 ∈ F) (sym (set_is k d less)) v.4) in
        (v.0, v.1, v.2, v.3, h.1)

    meet_visits : (k : ℕ) (d : Pin) → k < length visits → Any (IsTrueAt m k) p.cycle → Visits k d
    meet_visits k d less v =
        let here : IsState m v.1 = subst (IsState m) v.3 (states v.0 v.1 v.2) in
        (v.0, v.1, v.2, v.3, subst (λ (F : StateSet). v.1 ∈ F) (set_is k d less) ((sets.each k (omega (arith, less, length-map visits (λ (q : Pin). has_state (now.pins q.slot)))) v.1).1 (here, v.4)))

    -- the set at a place tells of the constraint with the next number
    pub met_iff : {P : Type 0} (k : ℕ) (d : Pin) → k < length visits → (P → Visits k d) × (Visits k d → P) → (P → MeetsOnCycle m p (k + 1)) × (MeetsOnCycle m p (k + 1) → P)
    met_iff k d less h =
        let e : k ≡ k + 1 - 1 = omega arith in (
          λ yes. subst (λ i. Any (IsTrueAt m i) p.cycle) e (visits_meet k d less (h.0 yes)),
          λ met. h.1 (meet_visits k d less (subst (λ i. Any (IsTrueAt m i) p.cycle) (sym e) met)),
        )

  -- the places so far are met
  abbrev pub MetBefore : Lasso → ℕ → Type 0
  MetBefore p b = (k : ℕ) → k < b → MeetsOnCycle m p (k + 1)

  known_before : (p : Lasso) (b : ℕ) → MetBefore p b → (k : ℕ) → 1 ≤ k → k ≤ b → MeetsOnCycle m p k
  known_before p b before k some within = subst (MeetsOnCycle m p) (let e : k - 1 + 1 ≡ k = omega arith in e) (before (k - 1) (omega arith))

  pub all_met : (p : Lasso) → MetBefore p (length visits) → (k : ℕ) → IsConstraint m k → MeetsOnCycle m p k
  all_met p before k known = known_before p (length visits) before k known.0 (omega (arith, known.1, size))

  pub first_unmet : (p : Lasso) (b : ℕ) → b < length visits → MetBefore p b → (MeetsOnCycle m p (b + 1) → ⊥) → IsFirstUnmet m p (b + 1)
  first_unmet p b less before unmet = record { known = (omega arith, omega (arith, less, size)); unmet = unmet; before = λ j known earlier. known_before p b before j known.0 (omega (arith, earlier)) }
