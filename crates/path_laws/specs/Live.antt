-- Models in which every state has a next one, and finite runs.
use Rattle.std.specs.Prelude.{ℕ, ◌+◌, ◌-◌, ◌<◌, List, [], length}
use Rattle.std.specs.List.{slice_index_or}
use Rattle.kripke_model.specs.System.{System, State}
use Rattle.kripke_model.specs.Step.{IsState, Step}

-- the transition relation is total on the states of the model
abbrev pub IsLive : System → Type 0
IsLive m = (s : State) → IsState m s → (t : State) × IsState m t × Step m s t

-- at least one state, each of which steps to the one that comes after it
pub record IsRun (m : System) (run : List State) : Type 0 where
  pub begins : 0 < length run
  pub states : (i : ℕ) → i < length run → IsState m (slice_index_or run i [])
  pub steps : (i : ℕ) → i + 1 < length run
      → Step m (slice_index_or run i []) (slice_index_or run (i + 1) [])

abbrev pub first_state : List State → State
first_state run = slice_index_or run 0 []

abbrev pub last_state : List State → State
last_state run = slice_index_or run (length run - 1) []
