-- Parts of runs, and the runs of a path.
use Rattle.std.proofs.Common.{◌≡◌, ℕ, zero, suc, ◌+◌, ◌-◌, ◌<◌, ◌≤◌, List, [], length, get_or, take, drop, sym, ◌∙◌, ap, subst, arith, length-take-le, length-drop, add-one}
use Rattle.std.proofs.lemmas.List.{get_or-take, get_or-drop}
use Rattle.kripke_model.specs.System.{System, State}
use Rattle.kripke_model.specs.Step.{IsState, Step, Initial}
use Rattle.path_laws.specs.StateSet.{StateSet, ◌∈◌}
use Rattle.path_laws.specs.Live.{IsRun, first_state, last_state}
use Rattle.path_laws.proofs.Walks.{segment, length-segment, get_or-segment}
use Rattle.state_reach.specs.Closed.{IsClosed}
use Rattle.state_reach.specs.States.{IsReachable}

module _ (m : System) where
  -- ---- a run up to a place, and from there on

  module _ (run : List State) (is_run : IsRun m run) (i : ℕ) (there : i < length run) where
    pub front_length : length (take (suc i) run) ≡ suc i
    front_length = length-take-le (suc i) run (omega arith)

    pub front_at : (k : ℕ) → k ≤ i → get_or (take (suc i) run) k [] ≡ get_or run k []
    front_at k h = get_or-take (suc i) run k [] (omega arith)

    pub front_run : IsRun m (take (suc i) run)
    front_run = record {
      begins = omega (arith, front_length);
      states = λ k h. subst (λ s. IsState m s) (sym (front_at k (omega (arith, front_length)))) (is_run.states k (omega (arith, front_length)));
      steps = λ k h. rw (front_at k (omega (arith, front_length)), front_at (k + 1) (omega (arith, front_length))) (is_run.steps k (omega (arith, front_length)));
    }

    pub front_first : first_state (take (suc i) run) ≡ first_state run
    front_first = front_at 0 (omega arith)

    pub front_last : last_state (take (suc i) run) ≡ get_or run i []
    front_last = ap (λ k. get_or (take (suc i) run) k []) (omega (arith, front_length)) ∙ front_at i (omega arith)

    pub rest_length : length (drop i run) ≡ length run - i
    rest_length = length-drop i run

    pub rest_at : (k : ℕ) → get_or (drop i run) k [] ≡ get_or run (i + k) []
    rest_at k = get_or-drop i run k []

    pub rest_run : IsRun m (drop i run)
    rest_run = record {
      begins = omega (arith, rest_length);
      states = λ k h. subst (λ s. IsState m s) (sym (rest_at k)) (is_run.states (i + k) (omega (arith, rest_length)));
      steps = λ k h. rw (rest_at k, rest_at (k + 1)) (subst (λ n. Step m (get_or run (i + k) []) (get_or run n [])) (omega arith) (is_run.steps (i + k) (omega (arith, rest_length))));
    }

    pub rest_first : first_state (drop i run) ≡ get_or run i []
    rest_first = rest_at 0 ∙ ap (λ k. get_or run k []) (omega arith)

    pub rest_last : last_state (drop i run) ≡ last_state run
    rest_last = rest_at (length (drop i run) - 1) ∙ ap (λ k. get_or run k []) (omega (arith, rest_length))

    -- each state of a run from an initial state is reachable
    pub reachable_at : Initial m (first_state run) → IsReachable m (get_or run i [])
    reachable_at initial = (take (suc i) run, front_run, subst (λ s. Initial m s) (sym front_first) initial, front_last)

  -- ---- reachable states are inside of closed sets

  module _ (inside : StateSet) (closed : IsClosed m inside) where
    run_inside : (run : List State) → IsRun m run → Initial m (first_state run) → (i : ℕ) → i < length run → get_or run i [] ∈ inside
    run_inside run is_run initial zero h = closed.initials (get_or run 0 []) (is_run.states 0 (omega arith)) initial
    run_inside run is_run initial (suc i) h =
        closed.nexts (get_or run i []) (is_run.states i (omega arith)) (run_inside run is_run initial i (omega arith))
        (get_or run (suc i) []) (is_run.states (suc i) (omega arith))
        (subst (λ k. Step m (get_or run i []) (get_or run k [])) (add-one i) (is_run.steps i (omega arith)))

    pub reachable_inside : (s : State) → IsReachable m s → s ∈ inside
    reachable_inside s (run, is_run, initial, ends) = subst (λ t. t ∈ inside) ends (run_inside run is_run initial (length run - 1) (let b : 0 < length run = is_run.begins in omega arith))

  -- ---- the runs of a sequence

  module _ (w : ℕ → State) (states : (n : ℕ) → IsState m (w n)) (steps : (n : ℕ) → Step m (w n) (w (n + 1))) where
    pub segment_at : (i n k : ℕ) → k < n → get_or (segment w i n) k [] ≡ w (i + k)
    segment_at i n k h = get_or-segment w i n k [] h

    pub segment_run : (i n : ℕ) → IsRun m (segment w i (suc n))
    segment_run i n = record {
      begins = omega (arith, length-segment w i (suc n));
      states = λ k h. subst (λ s. IsState m s) (sym (segment_at i (suc n) k (omega (arith, length-segment w i (suc n))))) (states (i + k));
      steps = λ k h. rw (segment_at i (suc n) k (omega (arith, length-segment w i (suc n))), segment_at i (suc n) (k + 1) (omega (arith, length-segment w i (suc n))))
          (subst (λ j. Step m (w (i + k)) (w j)) (omega arith) (steps (i + k)));
    }

    pub segment_first : (i n : ℕ) → first_state (segment w i (suc n)) ≡ w i
    segment_first i n = segment_at i (suc n) 0 (omega arith) ∙ ap w (omega arith)

    pub walk_reaches : Initial m (w 0) → (n : ℕ) → IsReachable m (w n)
    walk_reaches initial n = (
      segment w 0 (suc n),
      segment_run 0 n,
      subst (λ s. Initial m s) (sym (segment_first 0 n)) initial,
      ap (λ k. get_or (segment w 0 (suc n)) k []) (let e : length (segment w 0 (suc n)) - 1 ≡ n = omega (arith, length-segment w 0 (suc n)) in e) ∙ segment_at 0 (suc n) n (omega arith) ∙ ap w (omega arith),
    )
