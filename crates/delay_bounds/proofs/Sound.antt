-- The delays that a proof shows are the shortest and the longest one.
use Rattle.std.proofs.Common.{◌≡◌, inl, inr, ℕ, zero, suc, ◌+◌, ◌-◌, ◌<◌, ◌≤◌, List, [], length, get_or, take, drop, sym, ◌∙◌, subst, arith}
use Rattle.kripke_model.specs.Term.{Term}
use Rattle.kripke_model.specs.System.{System, State}
use Rattle.kripke_model.specs.Step.{IsState}
use Rattle.kripke_model.specs.Path.{at}
use Rattle.kripke_model.proofs.Lassos.{all_states, all_steps}
use Rattle.path_laws.specs.StateSet.{StateSet, ◌∈◌}
use Rattle.path_laws.specs.Live.{IsRun, last_state}
use Rattle.fair_rules.specs.SetLists.{set_at}
use Rattle.path_laws.proofs.Walks.{segment, length-segment}
use Rattle.state_reach.specs.States.{HoldsAt, IsReachable}
use Rattle.delay_bounds.specs.Delays.{IsStart, IsRunFrom, Leads, Meets, AllMeet, Starts, IsShortest, IsLongest}
use Rattle.delay_bounds.specs.Form.{Shortest, Longest, DelayProof, shortest_delay, longest_delay}
use Rattle.state_reach.specs.Covers.{Has, StepsInto, InSome, AreSpread, Keeps, Comes}
use Rattle.delay_bounds.specs.Shows.{Waits, ShowsShortest, ShowsLongest, ShowsDelays}
use Rattle.delay_bounds.proofs.Places.{front_length, front_at, front_run, front_first, rest_run, rest_first, rest_last, rest_length, rest_at, reachable_at, reachable_inside, segment_at, segment_run, segment_first, walk_reaches}
use Rattle.delay_bounds.proofs.Bounds.{spread_back, closed_back, meets_or_not}

module _ (m : System) (p q : Term) where
  -- where a way comes by p something starts
  way_starts : (way : List State) (i : ℕ) → Comes m (HoldsAt m p) way i → IsStart m p (get_or way i [])
  way_starts way i comes = record { reachable = reachable_at m way comes.run i comes.there comes.initial; holds = comes.holds }

  -- no start is bad
  not_bad : (inside : StateSet) (Bad : State → Type 0) → Keeps m (HoldsAt m p) inside Bad → (s : State) → IsState m s → IsStart m p s → Bad s → ⊥
  not_bad inside Bad keeps s is_state start bad = keeps.apart s is_state (reachable_inside m inside keeps.closed s start.reachable) start.holds bad

  start_state : (s : State) → IsReachable m s → IsState m s
  start_state s (run, is_run, initial, ends) = subst (λ t. IsState m t) ends (is_run.states (length run - 1) (let b : 0 < length run = is_run.begins in omega arith))

  no_start : (inside : StateSet) → Keeps m (HoldsAt m p) inside (λ s. Unit {0}) → Starts m p → ⊥
  no_start inside keeps (s, start) = not_bad inside (λ s. Unit {0}) keeps s (start_state s start.reachable) start tt

  -- ---- runs from a start

  module _ (s : State) (n : ℕ) (run : List State) (from : IsRunFrom m s n run) where
    ends_at : (P : State → Type 0) → P (last_state run) → P (get_or run n [])
    ends_at P h = subst (λ k. P (get_or run k [])) (let e : length run - 1 ≡ n = omega (arith, from.steps) in e) h

    begins_at : (set : StateSet) → get_or run (n - n) [] ∈ set → s ∈ set
    begins_at set h = subst (λ t. t ∈ set) from.begins (subst (λ k. get_or run k [] ∈ set) (let e : n - n ≡ 0 = omega arith in e) h)

    run_state : IsState m s
    run_state = subst (λ t. IsState m t) from.begins (from.is_run.states 0 (omega (arith, from.steps)))

  -- ---- shortest

  never_leads : (inside back : StateSet) → Keeps m (HoldsAt m p) inside (λ s. s ∈ back) → Has m (HoldsAt m q) back → Has m (StepsInto m (λ s. Unit {0}) back) back → (n : ℕ) → Leads m p q n → ⊥
  never_leads inside back keeps has more n (s, run, start, from, ends) =
      not_bad inside (λ t. t ∈ back) keeps s (run_state s n run from) start
      (begins_at s n run from back (closed_back m run from.is_run n from.steps (HoldsAt m q) back has more (ends_at s n run from (HoldsAt m q) ends) n (omega arith)))

  not_sooner : (inside : StateSet) (back : List StateSet) → Keeps m (HoldsAt m p) inside (InSome back)
      → AreSpread m (HoldsAt m q) (λ s. Unit {0}) back → (n : ℕ) → n < length back → Leads m p q n → ⊥
  not_sooner inside back keeps spread n l (s, run, start, from, ends) =
      not_bad inside (InSome back) keeps s (run_state s n run from) start (
        n,
        l,
        begins_at s n run from (set_at back n)
            (spread_back m run from.is_run n from.steps (HoldsAt m q) (λ s. Unit {0}) back spread (ends_at s n run from (HoldsAt m q) ends) (λ i h. tt) n (omega arith) l),
      )

  way_leads : (way : List State) (i n : ℕ) → Comes m (HoldsAt m p) way i → HoldsAt m q (last_state way) → length way ≡ i + 1 + n → Leads m p q n
  way_leads way i n comes ends count = (
    get_or way i [],
    drop i way,
    way_starts way i comes,
    record { is_run = rest_run m way comes.run i comes.there; begins = rest_first m way comes.run i comes.there; steps = omega (arith, rest_length m way comes.run i comes.there, count) },
    subst (HoldsAt m q) (sym (rest_last m way comes.run i comes.there)) ends,
  )

  pub shortest_sound : (s : Shortest StateSet) → ShowsShortest m (HoldsAt m p) (HoldsAt m q) s → IsShortest m p q (shortest_delay s)
  shortest_sound (Shortest.NoStart inside) keeps = no_start inside keeps
  shortest_sound (Shortest.Never inside back way) (keeps, has, more, comes) = (
    (get_or way (length way - 1) [], way_starts way (length way - 1) comes),
    never_leads inside back keeps has more,
  )
  shortest_sound (Shortest.Steps inside back way start) (keeps, spread, comes, ends, count) = (
    (get_or way start [], way_starts way start comes),
    way_leads way start (length back) comes ends count,
    not_sooner inside back keeps spread,
  )

  -- ---- longest

  all_meet : (inside : StateSet) (stay : List StateSet) (n : ℕ) → n < length stay → Keeps m (HoldsAt m p) inside (λ s. s ∈ set_at stay n)
      → AreSpread m (λ s. HoldsAt m q s → ⊥) (λ s. HoldsAt m q s → ⊥) stay → AllMeet m p q n
  all_meet inside stay n l keeps spread s run start from = elim (meets_or_not m q run) [
    | inl meets ↦ meets
    | inr none ↦ absurd (not_bad inside (λ t. t ∈ set_at stay n) keeps s (run_state s n run from) start
        (begins_at s n run from (set_at stay n)
        (spread_back m run from.is_run n from.steps (λ t. HoldsAt m q t → ⊥) (λ t. HoldsAt m q t → ⊥) stay spread (none n (omega (arith, from.steps))) none n (omega arith) l)))
  ]

  -- a part of the way that has no q doesn't meet it
  no_meet : (way : List State) (i n : ℕ) → ((j : ℕ) → i ≤ j → j < length way → HoldsAt m q (get_or way j []) → ⊥) → (run : List State) (met : Meets m q run)
      → i + met.0 < length way → get_or run met.0 [] ≡ get_or way (i + met.0) [] → ⊥
  no_meet way i n none run met within same = none (i + met.0) (omega arith) within (subst (HoldsAt m q) same met.2)

  waits_longer : (way : List State) (i n : ℕ) → Comes m (HoldsAt m p) way i → Waits (HoldsAt m q) way i n → (k : ℕ) → k < n → AllMeet m p q k → ⊥
  waits_longer way i zero comes waits k l all = absurd (omega arith)
  waits_longer way i (suc n) comes (count, none) k l all =
      let is_rest : IsRun m (drop i way) = rest_run m way comes.run i comes.there in
      let there : k < length (drop i way) = omega (arith, rest_length m way comes.run i comes.there, count) in
      let size : length (take (suc k) (drop i way)) ≡ k + 1 = omega (arith, front_length m (drop i way) is_rest k there) in
      let met : Meets m q (take (suc k) (drop i way)) = all (get_or way i []) (take (suc k) (drop i way)) (way_starts way i comes) (record {
        is_run = front_run m (drop i way) is_rest k there;
        begins = front_first m (drop i way) is_rest k there ∙ rest_first m way comes.run i comes.there;
        steps = size;
      }) in
      no_meet way i n none (take (suc k) (drop i way)) met (omega (arith, met.1, size, count))
      (front_at m (drop i way) is_rest k there met.0 (omega (arith, met.1, size)) ∙ rest_at m way comes.run i comes.there met.0)

  pub longest_sound : (l : Longest StateSet) → ShowsLongest m (HoldsAt m p) (HoldsAt m q) l → IsLongest m p q (longest_delay l)
  longest_sound (Longest.NoStart inside) keeps = no_start inside keeps
  longest_sound (Longest.Endless lasso start) (path, initial, holds, none) = ((at lasso start, begun), endless)
    where
      begun : IsStart m p (at lasso start)
      begun = record { reachable = walk_reaches m (at lasso) (all_states path) (all_steps path) initial start; holds = holds }

      endless : (n : ℕ) → AllMeet m p q n → ⊥
      endless n all =
          let met : Meets m q (segment (at lasso) start (suc n)) = all (at lasso start) (segment (at lasso) start (suc n)) begun (record {
            is_run = segment_run m (at lasso) (all_states path) (all_steps path) start n;
            begins = segment_first m (at lasso) (all_states path) (all_steps path) start n;
            steps = omega (arith, length-segment (at lasso) start (suc n));
          }) in
          none (start + met.0) (omega arith)
          (subst (HoldsAt m q) (segment_at m (at lasso) (all_states path) (all_steps path) start (suc n) met.0 (omega (arith, met.1, length-segment (at lasso) start (suc n)))) met.2)
  longest_sound (Longest.Steps inside stay way start) (some, keeps, spread, comes, waits) = (
    (get_or way start [], way_starts way start comes),
    all_meet inside stay (length stay - 1) (omega arith) keeps spread,
    waits_longer way start (length stay - 1) comes waits,
  )

pub proofs_sound : (m : System) (p q : Term) (proof : DelayProof StateSet) → ShowsDelays m p q proof
    → IsShortest m p q (shortest_delay proof.shortest) × IsLongest m p q (longest_delay proof.longest)
proofs_sound m p q proof shows = (shortest_sound m p q proof.shortest shows.shortest, longest_sound m p q proof.longest shows.longest)
