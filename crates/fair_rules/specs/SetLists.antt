-- Lists of sets of states, read by place, and what a state's next states have.
use Rattle.std.specs.Prelude.{ℕ, ◌<◌, true, false, List, slice_index_or}
use Rattle.kripke_model.specs.System.{System, State}
use Rattle.kripke_model.specs.Step.{IsState, Step}
use Rattle.path_laws.specs.StateSet.{StateSet, ◌∈◌}

abbrev pub everything : StateSet
everything s = true

abbrev pub nothing : StateSet
nothing s = false

-- the set at a place of a list, which is empty past the end
abbrev pub set_at : List StateSet → ℕ → StateSet
set_at sets k = slice_index_or sets k nothing

-- the state is in some set of the list
abbrev pub InSome : List StateSet → State → Type 0
InSome sets s = (i : ℕ) × s ∈ set_at sets i

-- the state is in a set that stands before place k
abbrev pub InEarlier : List StateSet → ℕ → State → Type 0
InEarlier sets k s = (i : ℕ) × (i < k) × s ∈ set_at sets i

-- each state of the model that is in the set has the property
abbrev pub IsInside : System → StateSet → (State → Type 0) → Type 0
IsInside m F P = (s : State) → IsState m s → s ∈ F → P s

-- some next state, and each next state, has the property
abbrev pub SomeNext : System → (State → Type 0) → State → Type 0
SomeNext m P s = (t : State) × IsState m t × Step m s t × P t

abbrev pub EachNext : System → (State → Type 0) → State → Type 0
EachNext m P s = (t : State) → IsState m t → Step m s t → P t
