-- A proof of delays shows the same of properties that are the same at the states of the model.
use Rattle.std.proofs.Common.{ℕ, zero, suc, ◌-◌, ◌<◌, List, [], length, get_or, arith}
use Rattle.std.specs.Prelude.{◌↔◌}
use Rattle.kripke_model.specs.System.{System, State}
use Rattle.kripke_model.specs.Step.{IsState}
use Rattle.kripke_model.specs.Path.{at}
use Rattle.kripke_model.proofs.Lassos.{all_states}
use Rattle.path_laws.specs.Live.{IsRun}
use Rattle.path_laws.specs.StateSet.{StateSet}
use Rattle.delay_bounds.specs.Form.{Shortest, Longest}
use Rattle.state_reach.specs.Covers.{AreSpread, Keeps, Comes, Not}
use Rattle.delay_bounds.specs.Shows.{Waits, ShowsShortest, ShowsLongest}

-- the same at the states of the model
abbrev pub AreAlike : System → (State → Type 0) → (State → Type 0) → Type 0
AreAlike m P Q = (s : State) → IsState m s → P s ↔ Q s

pub spread_alike : (m : System) (P P' R R' : State → Type 0) → AreAlike m P P' → AreAlike m R R' → (sets : List StateSet) → AreSpread m P R sets → AreSpread m P' R' sets
spread_alike m P P' R R' firsts laters sets spread = record {
  first = λ some s is_state h. spread.first some s is_state ((firsts s is_state).1 h);
  later = λ i l s is_state into. spread.later i l s is_state ((laters s is_state).1 into.0, into.1);
}

module _ (m : System) (P P' Q Q' : State → Type 0) (starts : AreAlike m P P') (goals : AreAlike m Q Q') where
  keeps : (inside : StateSet) (Bad : State → Type 0) → Keeps m P inside Bad → Keeps m P' inside Bad
  keeps inside Bad k = record { closed = k.closed; apart = λ s is_state here h bad. k.apart s is_state here ((starts s is_state).1 h) bad }

  comes : (way : List State) (i : ℕ) → Comes m P way i → Comes m P' way i
  comes way i c = record { run = c.run; initial = c.initial; there = c.there; holds = (starts (get_or way i []) (c.run.states i c.there)).0 c.holds }

  ends : (way : List State) → IsRun m way → Q (get_or way (length way - 1) []) → Q' (get_or way (length way - 1) [])
  ends way run h = (goals (get_or way (length way - 1) []) (run.states (length way - 1) (let b : 0 < length way = run.begins in omega arith))).0 h

  waits : (way : List State) (i n : ℕ) → IsRun m way → Waits Q way i n → Waits Q' way i n
  waits way i zero run w = w
  waits way i (suc n) run w = (w.0, λ j le lt h. w.1 j le lt ((goals (get_or way j []) (run.states j lt)).1 h))

  apart : AreAlike m (Not Q) (Not Q')
  apart s is_state = (λ h k. h ((goals s is_state).1 k), λ h k. h ((goals s is_state).0 k))

  pub shortest_alike : (x : Shortest StateSet) → ShowsShortest m P Q x → ShowsShortest m P' Q' x
  shortest_alike (Shortest.NoStart inside) h = keeps inside _ h
  shortest_alike (Shortest.Never inside back way) h = (keeps inside _ h.0, λ s is_state q. h.1 s is_state ((goals s is_state).1 q), h.2, comes way (length way - 1) h.3)
  shortest_alike (Shortest.Steps inside back way start) h = (
    keeps inside _ h.0,
    spread_alike m Q Q' _ _ goals (λ s is_state. (λ x. x, λ x. x)) back h.1,
    comes way start h.2,
    ends way h.2.run h.3,
    h.4,
  )

  pub longest_alike : (x : Longest StateSet) → ShowsLongest m P Q x → ShowsLongest m P' Q' x
  longest_alike (Longest.NoStart inside) h = keeps inside _ h
  longest_alike (Longest.Endless lasso start) h = (
    h.0,
    h.1,
    (starts (at lasso start) (all_states h.0 start)).0 h.2,
    λ n le q. h.3 n le ((goals (at lasso n) (all_states h.0 n)).1 q),
  )
  longest_alike (Longest.Steps inside stay way start) h = (
    h.0,
    keeps inside _ h.1,
    spread_alike m (Not Q) (Not Q') (Not Q) (Not Q') apart apart stay h.2,
    comes way start h.3,
    waits way start (length stay - 1) h.3.run h.4,
  )

-- the other way round
pub alike_back : (m : System) (P Q : State → Type 0) → AreAlike m P Q → AreAlike m Q P
alike_back m P Q h s is_state = ((h s is_state).1, (h s is_state).0)
