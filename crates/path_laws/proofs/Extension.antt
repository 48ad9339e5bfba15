-- Each run of a model without constraints goes on to an infinite path, where every state has a next one.
use Rattle.std.proofs.Common.{◌≡◌, inl, inr, ℕ, zero, suc, ◌+◌, ◌-◌, ◌<◌, ◌≤◌, List, [], length, get_or, sym, ◌∙◌, ap, subst, arith, cond, ltb, subst₂}
use Rattle.std.proofs.lemmas.Bool.{cases_lt, lt-ltb, le-ltb, cond-true, cond-false}
use Rattle.kripke_model.specs.System.{System, State}
use Rattle.kripke_model.specs.Step.{IsState, Step}
use Rattle.kripke_model.specs.Path.{Lasso, at}
use Rattle.kripke_model.specs.Truth.{IsFair}
use Rattle.kripke_model.specs.Walk.{IsFairWalk}
use Rattle.path_laws.specs.Live.{IsLive, IsRun}
use Rattle.path_laws.specs.Laws.{RunsExtend}
use Rattle.path_laws.proofs.WalkLasso.{Follows}
use Rattle.path_laws.proofs.FairLasso.{fair_lasso_of}

record Alive (m : System) : Type 0 where
  state : State
  is_state : IsState m state

module _ (m : System) (live : IsLive m) where
  next_of : Alive m → Alive m
  next_of x = let n = live x.state x.is_state in record { state = n.0; is_state = n.1 }

  abbrev onward : Alive m → ℕ → Alive m
  onward x zero = x
  onward x (suc n) = next_of (onward x n)

  onward_step : (x : Alive m) (n : ℕ) → Step m (onward x n).state (onward x (suc n)).state
  unfolding next_of
  onward_step x n = (live (onward x n).state (onward x n).is_state).2

  module _ (run : List State) (is_run : IsRun m run) where
    abbrev last : ℕ
    last = length run - 1

    abbrev end : Alive m
    end = record { state = get_or run last []; is_state = is_run.states last (omega (arith, is_run.begins)) }

    -- the run, and then onward
    abbrev walk : ℕ → State
    walk i = cond (ltb i last) (get_or run i []) (onward end (i - last)).state

    walk_from : (i : ℕ) → last ≤ i → walk i ≡ (onward end (i - last)).state
    walk_from i h = cond-false (ltb i last) (get_or run i []) (onward end (i - last)).state (le-ltb i last h)

    walk_run : (i : ℕ) → i ≤ last → walk i ≡ get_or run i []
    walk_run i h = elim (cases_lt i last) [
      | inl l ↦ cond-true (ltb i last) (get_or run i []) (onward end (i - last)).state (lt-ltb i last l)
      | inr g ↦ (let e : i - last ≡ 0 = omega arith in
          let e' : last ≡ i = omega arith in
          walk_from i g ∙ ap (λ d. (onward end d).state) e ∙ ap (λ k. get_or run k []) e')
    ]

    walk_state : (i : ℕ) → IsState m (walk i)
    walk_state i = elim (cases_lt i last) [
      | inl l ↦ subst (λ s. IsState m s) (sym (walk_run i (omega arith))) (is_run.states i (omega arith))
      | inr g ↦ subst (λ s. IsState m s) (sym (walk_from i g)) (onward end (i - last)).is_state
    ]

    walk_step : (i : ℕ) → Step m (walk i) (walk (i + 1))
    walk_step i = elim (cases_lt i last) [
      | inl l ↦ subst₂ (λ s t. Step m s t) (sym (walk_run i (omega arith))) (sym (walk_run (i + 1) (omega arith))) (is_run.steps i (omega arith))
      | inr g ↦ (let e : suc (i - last) ≡ i + 1 - last = omega arith in
          subst₂ (λ s t. Step m s t) (sym (walk_from i g)) (ap (λ d. (onward end d).state) e ∙ sym (walk_from (i + 1) (omega arith))) (onward_step end (i - last)))
    ]

    pub extension : length m.constraints ≡ 0 → (p : Lasso) × IsFair m p × ((i : ℕ) → i < length run → at p i ≡ get_or run i [])
    extension none =
        let fair : IsFairWalk m walk = record { states = walk_state; steps = walk_step; met = λ k c h. absurd (omega arith) } in
        let l : (p : Lasso) × IsFair m p × Follows p walk last = fair_lasso_of m walk fair last in
        (l.0, l.1, λ i h. l.2.agrees i (omega arith) ∙ walk_run i (omega arith))

pub runs_extend : (m : System) → IsLive m → length m.constraints ≡ 0 → RunsExtend m
runs_extend m live none = λ run is_run. extension m live run is_run none
