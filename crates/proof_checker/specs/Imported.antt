-- The sets of numbers of nodes among those of an object.
use Rattle.std.specs.Prelude.{◌≡◌, ◌↔◌, ℕ, ◌<◌, true, List, length, All, slice_index}
use Rattle.bdd_nodes.specs.declared.triple.Triple.{Triple}
use Rattle.bdd_nodes.specs.Table.{value_of}
use Rattle.bdd_walk.specs.declared.list.NodeList.{NodeList}
use Rattle.bdd_walk.specs.List.{nodes_of, roots_of}
use Rattle.bit_encode.specs.Code.{code, types_of}
use Rattle.kripke_model.specs.System.{System, State}
use Rattle.kripke_model.specs.Step.{IsState}
use Rattle.path_laws.specs.StateSet.{StateSet}
use Rattle.region_sets.specs.Sets.{Sets, In, IsLive}
use Rattle.diagram_sets.specs.declared.sets.DiagramSets.{DiagramSets}
use Rattle.diagram_sets.specs.Kept.{diagram_sets}
use Rattle.diagram_sets.specs.Exports.{coding_in}
use Rattle.block_proofs.specs.declared.numbered.Numbered.{Numbered}

-- ---- numbers and their places

abbrev pub AreBelow : ℕ → Numbered → Type 0
AreBelow end list = (k : ℕ) → k < length list.numbers.items → slice_index list.numbers.items k < end

-- the number stands at its place
pub record IsPlaced (list : Numbered) (number : ℕ) : Type 0 where
  pub known : number < length list.places.items
  pub within : slice_index list.places.items number < length list.numbers.items
  pub there : slice_index list.numbers.items (slice_index list.places.items number) ≡ number

-- ---- sets

-- the states in whose codes, with the variables in this order, the walk down from the node ends at 1
abbrev pub node_states : System → List ℕ → List Triple → ℕ → StateSet
node_states m order nodes number s
    = value_of nodes number (code (record { types = types_of m; order = order }) s)

abbrev pub seen_in : DiagramSets → Sets
seen_in x = diagram_sets x.parts x.pins x.fulls

-- the slot's pin is live, and has the states in whose codes the node has value 1
pub record HasNumber (x : DiagramSets) (nodes : List Triple) (slot number : ℕ) : Type 0 where
  pub live : IsLive (seen_in x) slot
  pub states : (s : State)
      → In (seen_in x) slot s
      ↔ (IsState (seen_in x).over s × (value_of nodes number (code (coding_in x) s) ≡ true))

-- each root at the place of a number has its slot
abbrev pub HasPlaces : DiagramSets → NodeList → List ℕ → List ℕ → Type 0
HasPlaces x list places table
    = (number : ℕ) → number < length places → slice_index places number < length (roots_of list)
    → HasNumber x (nodes_of list) (slice_index table number)
    (slice_index (roots_of list) (slice_index places number))

-- each of the numbers has its slot
abbrev pub HaveNumbers : DiagramSets → List Triple → List ℕ → List ℕ → Type 0
HaveNumbers x nodes table numbers
    = All (λ number. HasNumber x nodes (slice_index table number) number) numbers
