-- What sets that are spread backwards say of runs.
use Rattle.std.proofs.Common.{◌≡◌, ◌⊎◌, inl, inr, ℕ, zero, suc, ◌+◌, ◌-◌, ◌<◌, ◌≤◌, List, [], length, get_or, subst, arith}
use Rattle.std.proofs.lemmas.Bool.{cases_eq}
use Rattle.kripke_model.specs.Term.{Term}
use Rattle.kripke_model.specs.System.{System, State}
use Rattle.kripke_model.specs.Step.{IsState, Step}
use Rattle.path_laws.specs.StateSet.{StateSet, ◌∈◌}
use Rattle.path_laws.specs.Live.{IsRun}
use Rattle.fair_rules.specs.SetLists.{set_at}
use Rattle.path_laws.proofs.HoldsLemmas.{holds_or_not}
use Rattle.state_reach.specs.States.{HoldsAt}
use Rattle.delay_bounds.specs.Delays.{Meets}
use Rattle.state_reach.specs.Covers.{Has, StepsInto, AreSpread}

-- a run of n steps
module _ (m : System) (run : List State) (is_run : IsRun m run) (n : ℕ) (count : length run ≡ n + 1) where
  step_back : (j : ℕ) → suc j ≤ n → Step m (get_or run (n - suc j) []) (get_or run (n - j) [])
  step_back j h = subst (λ k. Step m (get_or run (n - suc j) []) (get_or run k [])) (let e : n - suc j + 1 ≡ n - j = omega arith in e) (is_run.steps (n - suc j) (omega (arith, count)))

  state_at : (j : ℕ) → IsState m (get_or run (n - j) [])
  state_at j = is_run.states (n - j) (omega (arith, count))

  -- the state j steps before the end is in set j
  pub spread_back : (P R : State → Type 0) (sets : List StateSet) → AreSpread m P R sets → P (get_or run n []) → ((i : ℕ) → i < length run → R (get_or run i []))
      → (j : ℕ) → j ≤ n → j < length sets → get_or run (n - j) [] ∈ set_at sets j
  spread_back P R sets spread ends each zero h l = spread.first l (get_or run (n - 0) []) (state_at 0) (subst (λ k. P (get_or run k [])) (let e : n ≡ n - 0 = omega arith in e) ends)
  spread_back P R sets spread ends each (suc j) h l =
      spread.later j l (get_or run (n - suc j) []) (state_at (suc j))
      (each (n - suc j) (omega (arith, count)), (get_or run (n - j) [], state_at j, step_back j h, spread_back P R sets spread ends each j (omega arith) (omega arith)))

  -- in a set that has each state with a next state in it, all are
  pub closed_back : (P : State → Type 0) (set : StateSet) → Has m P set → Has m (StepsInto m (λ s. Unit {0}) set) set → P (get_or run n []) → (j : ℕ) → j ≤ n → get_or run (n - j) [] ∈ set
  closed_back P set has more ends zero h = has (get_or run (n - 0) []) (state_at 0) (subst (λ k. P (get_or run k [])) (let e : n ≡ n - 0 = omega arith in e) ends)
  closed_back P set has more ends (suc j) h =
      more (get_or run (n - suc j) []) (state_at (suc j)) (tt, (get_or run (n - j) [], state_at j, step_back j h, closed_back P set has more ends j (omega arith)))

-- q holds somewhere on the run, or nowhere
module _ (m : System) (q : Term) (run : List State) where
  abbrev FirstMeet : ℕ → Type 0
  FirstMeet b = ((i : ℕ) × (i < b) × HoldsAt m q (get_or run i [])) ⊎ ((i : ℕ) → i < b → HoldsAt m q (get_or run i []) → ⊥)

  first_meet : (b : ℕ) → FirstMeet b
  first_meet zero = inr (λ i h. absurd (omega arith))
  first_meet (suc b) = go (first_meet b) (holds_or_not m q (get_or run b []) (get_or run b []))
    where
      go : FirstMeet b → HoldsAt m q (get_or run b []) ⊎ (HoldsAt m q (get_or run b []) → ⊥) → FirstMeet (suc b)
      go (inl (i, l, h)) c = inl (i, omega arith, h)
      go (inr none) (inl h) = inl (b, omega arith, h)
      go (inr none) (inr not) = inr (λ i l h. elim (cases_eq i b) [
        | inl e ↦ not (subst (λ k. HoldsAt m q (get_or run k [])) e h)
        | inr apart ↦ none i (omega arith) h
      ])

  pub meets_or_not : Meets m q run ⊎ ((i : ℕ) → i < length run → HoldsAt m q (get_or run i []) → ⊥)
  meets_or_not = first_meet (length run)
