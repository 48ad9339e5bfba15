-- The rules by which sets of states prove that formulas hold, or fail, over fair paths.
use Rattle.std.specs.Prelude.{◌⊎◌, ℕ, ◌<◌, List, [], length, slice_index_or}
use Rattle.kripke_model.specs.System.{System, State}
use Rattle.path_laws.specs.StateSet.{StateSet, ◌∈◌}
use Rattle.fair_rules.specs.SetLists.{nothing, set_at, InSome, InEarlier, IsInside, SomeNext, EachNext}

-- states that keep clear of one constraint until they leave for an earlier layer
pub record Layer : Type 0 where
  pub avoided : ℕ
  pub states : StateSet

abbrev pub layer_at : List Layer → ℕ → Layer
layer_at layers k = slice_index_or layers k (record { avoided = 0; states = nothing })

abbrev pub InSomeLayer : List Layer → State → Type 0
InSomeLayer layers s = (i : ℕ) × s ∈ (layer_at layers i).states

abbrev pub InEarlierLayer : List Layer → ℕ → State → Type 0
InEarlierLayer layers k s = (i : ℕ) × (i < k) × s ∈ (layer_at layers i).states

-- the state is in layer k, and in the set of states that the layer's constraint avoids
abbrev pub Stays : List StateSet → List Layer → ℕ → State → Type 0
Stays avoided layers k t
    = (t ∈ (layer_at layers k).states) × t ∈ set_at avoided (layer_at layers k).avoided

-- ---- states without and with a fair path

-- each next state is in an earlier layer, or stays in this layer
abbrev pub AreNonfair : System → List StateSet → List Layer → Type 0
AreNonfair m avoided layers =
    (k : ℕ) → IsInside m (layer_at layers k).states
    (EachNext m (λ t. InEarlierLayer layers k t ⊎ Stays avoided layers k t))

abbrev pub reach_at : List (List StateSet) → ℕ → List StateSet
reach_at reaches k = slice_index_or reaches k []

-- reach sets: each lies inside the set, a step from a state of the set that is in `visit`, or from an earlier one
pub record AreReachSets (m : System) (visit set : StateSet) (sets : List StateSet) : Type 0 where
  pub inside : (i : ℕ) → IsInside m (set_at sets i) (λ s. s ∈ set)
  pub moves : (i : ℕ)
      → IsInside m (set_at sets i) (SomeNext m (λ t. ((t ∈ set) × t ∈ visit) ⊎ InEarlier sets i t))

-- for each constraint, its reach sets lead from each state of the set to a state of the set where it is true
pub record IsFairSet (m : System) (visited : List StateSet) (set : StateSet)
    (reaches : List (List StateSet)) : Type 0 where
  pub covered : (k : ℕ) → k < length visited → IsInside m set (InSome (reach_at reaches k))
  pub leads : (k : ℕ) → k < length visited
      → AreReachSets m (set_at visited k) set (reach_at reaches k)

-- ---- the rules of temporal nodes: f and g are the sets of the arguments

-- some next state is in f and has a fair path
abbrev pub MeetsEX : System → StateSet → StateSet → StateSet → Type 0
MeetsEX m fair f set = IsInside m set (SomeNext m (λ t. (t ∈ f) × t ∈ fair))

-- each next state is in f or has no fair path
abbrev pub MeetsAX : System → List Layer → StateSet → StateSet → Type 0
MeetsAX m nonfair f set = IsInside m set (EachNext m (λ t. (t ∈ f) ⊎ InSomeLayer nonfair t))

-- the first set lies in g, where fair paths begin, and each later one in f, a step from an earlier one
pub record MeetsEU (m : System) (fair f g : StateSet) (sets : List StateSet) : Type 0 where
  pub first : IsInside m (set_at sets 0) (λ s. (s ∈ g) × s ∈ fair)
  pub later : (k : ℕ) → 0 < k
      → IsInside m (set_at sets k) (λ s. (s ∈ f) × SomeNext m (InEarlier sets k) s)

-- each layer lies in f, and each next state is in g, has no fair path, is in an earlier layer, or stays
pub record MeetsAU (m : System) (avoided : List StateSet) (nonfair : List Layer) (f g : StateSet)
    (layers : List Layer) : Type 0 where
  pub inside : (k : ℕ) → IsInside m (layer_at layers k).states (λ s. s ∈ f)
  pub moves : (k : ℕ) → IsInside m (layer_at layers k).states
      (EachNext m
      (λ t. (t ∈ g)
      ⊎ (InSomeLayer nonfair t ⊎ (InEarlierLayer layers k t ⊎ Stays avoided layers k t))))

-- the set lies in g, and each state is in f, or each next state is in the set or has no fair path
pub record MeetsAR (m : System) (nonfair : List Layer) (f g set : StateSet) : Type 0 where
  pub inside : IsInside m set (λ s. s ∈ g)
  pub moves : IsInside m set (λ s. (s ∈ f) ⊎ EachNext m (λ t. (t ∈ set) ⊎ InSomeLayer nonfair t) s)

-- the first set lies in f and g, where fair paths begin, and each later one in g, a step from an earlier one
pub record AreUntils (m : System) (fair f g : StateSet) (untils : List StateSet) : Type 0 where
  pub first : IsInside m (set_at untils 0) (λ s. (s ∈ f) × (s ∈ g) × s ∈ fair)
  pub later : (k : ℕ) → 0 < k
      → IsInside m (set_at untils k) (λ s. (s ∈ g) × SomeNext m (InEarlier untils k) s)

-- a fair set inside g, or sets under `until`
pub record MeetsER (m : System) (visited : List StateSet) (fair f g set : StateSet)
    (reaches : List (List StateSet)) (untils : List StateSet) : Type 0 where
  pub inside : IsInside m set (λ s. s ∈ g)
  pub stays : IsFairSet m visited set reaches
  pub until : AreUntils m fair f g untils
