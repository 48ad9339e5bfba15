-- The obligations of a proof line by line, each as tests between two sets.
use Rattle.std.specs.Prelude.{ℕ, ◌<◌, List, [], ◌∷◌, ◌++◌, All, slice_index_or}
use Rattle.kripke_model.specs.System.{System, State}
use Rattle.kripke_model.specs.Step.{IsState, Initial}
use Rattle.path_laws.specs.StateSet.{StateSet, ◌∈◌}
use Rattle.fair_rules.specs.SetLists.{nothing, set_at, IsInside, SomeNext, EachNext}
use Rattle.fair_rules.specs.Rules.{Layer}
use Rattle.fair_rules.specs.Claims.{either, both, join}

-- each state of F is in G; each has a next state in G; each of its next states is in G;
-- each initial state is in F; s is an initial state in F
pub data Check : Type 0 where
  Inside : (F G : StateSet) → Check
  Leads : (F G : StateSet) → Check
  Keeps : (F G : StateSet) → Check
  Starts : (F : StateSet) → Check
  Begins : (s : State) (F : StateSet) → Check

abbrev pub IsMet : System → Check → Type 0
IsMet m (Check.Inside F G) = IsInside m F (λ s. s ∈ G)
IsMet m (Check.Leads F G) = IsInside m F (SomeNext m (λ t. t ∈ G))
IsMet m (Check.Keeps F G) = IsInside m F (EachNext m (λ t. t ∈ G))
IsMet m (Check.Starts F) = (s : State) → IsState m s → Initial m s → s ∈ F
IsMet m (Check.Begins s F) = IsState m s × Initial m s × s ∈ F

-- line n, counted from 0, holds; there is nothing to show past the end
abbrev pub LineHolds : System → List (List Check) → ℕ → Type 0
LineHolds m lines n = All (IsMet m) (slice_index_or lines n [])

abbrev pub AllHold : System → List (List Check) → Type 0
AllHold m lines = (n : ℕ) → LineHolds m lines n

-- line n is the first one that fails
abbrev pub IsFirstBad : System → List (List Check) → ℕ → Type 0
IsFirstBad m lines n = ((i : ℕ) → i < n → LineHolds m lines i) × (LineHolds m lines n → ⊥)

-- ---- lists of sets; `earlier` has the states of the sets before

-- layers inside f; each next state is in `out`, in an earlier layer, or stays clear of the layer's constraint
abbrev pub layer_lines : List StateSet → StateSet → StateSet → StateSet → List Layer
    → List (List Check)
layer_lines avoided f out earlier [] = []
layer_lines avoided f out earlier (l ∷ layers) =
    (Check.Inside l.states f
    ∷ Check.Keeps l.states
    (either out (either earlier (both l.states (set_at avoided l.avoided)))) ∷ [])
    ∷ layer_lines avoided f out (either earlier l.states) layers

-- sets inside f, each a step from `first` or an earlier set
abbrev pub step_lines : StateSet → StateSet → StateSet → List StateSet → List (List Check)
step_lines f first earlier [] = []
step_lines f first earlier (set ∷ sets) =
    (Check.Inside set f ∷ Check.Leads set (either first earlier) ∷ [])
    ∷ step_lines f first (either earlier set) sets

-- the first set lies in `first`, and the later ones in f, each a step from an earlier set
abbrev pub until_lines : StateSet → StateSet → List StateSet → List (List Check)
until_lines f first [] = []
until_lines f first (set ∷ sets) = (Check.Inside set first ∷ []) ∷ step_lines f nothing set sets

-- the reach sets of each constraint, after a line that they have every state of the set
abbrev pub reach_lines : StateSet → List StateSet → List (List StateSet) → List (List Check)
reach_lines set [] reaches = []
reach_lines set (visit ∷ visited) [] = (Check.Inside set nothing ∷ []) ∷ reach_lines set visited []
reach_lines set (visit ∷ visited) (sets ∷ reaches) =
    (Check.Inside set (join sets) ∷ [])
    ∷ step_lines set (both set visit) nothing sets ++ reach_lines set visited reaches
