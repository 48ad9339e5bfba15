-- The laws, as statements on a model.
use Rattle.std.specs.Prelude.{◌≡◌, ℕ, ◌<◌, ◌≤◌, List, [], length}
use Rattle.std.specs.List.{slice_index_or}
use Rattle.kripke_model.specs.Term.{Term}
use Rattle.kripke_model.specs.System.{System, State}
use Rattle.kripke_model.specs.Step.{IsState, Initial}
use Rattle.kripke_model.specs.Path.{Lasso, at}
use Rattle.kripke_model.specs.Truth.{IsFair, Sat, Initials}
use Rattle.path_laws.specs.StateSet.{StateSet, ◌∈◌}
use Rattle.path_laws.specs.StateCount.{Collision, state_count}
use Rattle.path_laws.specs.Live.{IsRun}
use Rattle.path_laws.specs.Reach.{IsBackwardReach}
use Rattle.path_laws.specs.Invariant.{invariant, Violates}

-- among more places of a sequence of states than the model has states, two show one state
abbrev pub StatesRepeat : System → Type 0
StatesRepeat m
    = (w : ℕ → State) → ((i : ℕ) → i ≤ state_count m → IsState m (w i))
    → Collision w (state_count m)

-- a run goes on to a fair path that begins with it
abbrev pub RunsExtend : System → Type 0
RunsExtend m
    = (run : List State) → IsRun m run → (p : Lasso) × IsFair m p
    × ((i : ℕ) → i < length run → at p i ≡ slice_index_or run i [])

-- an invariant is false at the states of the backward reach, and true at all others
abbrev pub InvariantExact : System → Type 0
InvariantExact m
    = (e : Term) (B : StateSet) → IsBackwardReach m (Violates m e) B → (s : State) → IsState m s
    → (s ∈ B → Sat m (invariant e) s → ⊥) × ((s ∈ B → ⊥) → Sat m (invariant e) s)

-- an invariant is a true specification where no initial state is in the backward reach, and a false one where some is
abbrev pub InvariantDecided : System → Type 0
InvariantDecided m = (e : Term) (B : StateSet) → IsBackwardReach m (Violates m e) B
    → (((s : State) → IsState m s → Initial m s → s ∈ B → ⊥) → Initials m (invariant e))
    × ((s : State) → IsState m s → Initial m s → s ∈ B → Initials m (invariant e) → ⊥)
