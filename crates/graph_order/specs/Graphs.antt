-- Directed graphs over the numbers below a count: all targets in one list.
use Rattle.std.specs.Prelude.{◌≡◌, ℕ, ◌+◌, ◌-◌, ◌<◌, ◌≤◌, Bool, true, false, List, length, slice_index, slice_index_or}

-- the targets of node v stand from firsts[v] up to firsts[v + 1]
pub record IsGraph (firsts targets : List ℕ) : Type 0 where
  pub not_empty : 0 < length firsts
  pub rising : (v : ℕ) → v + 1 < length firsts → slice_index firsts v ≤ slice_index firsts (v + 1)
  pub within : (v : ℕ) → v < length firsts → slice_index firsts v ≤ length targets
  pub targets_are_nodes : (k : ℕ) → k < length targets → slice_index targets k + 1 < length firsts

-- nodes so far, and targets from the last of them on
pub record IsStarted (firsts targets : List ℕ) : Type 0 where
  pub not_empty : 0 < length firsts
  pub rising : (v : ℕ) → v + 1 < length firsts → slice_index firsts v ≤ slice_index firsts (v + 1)
  pub within : (v : ℕ) → v < length firsts → slice_index firsts v ≤ length targets

abbrev pub vertex_count : List ℕ → ℕ
vertex_count firsts = length firsts - 1

-- the target at this place is one of v's, and is w
pub record IsEdge (firsts targets : List ℕ) (v k w : ℕ) : Type 0 where
  pub from : slice_index firsts v ≤ k
  pub below : k < slice_index firsts (v + 1)
  pub target : slice_index targets k ≡ w

-- an edge leads from v to w
abbrev pub HasEdge : List ℕ → List ℕ → ℕ → ℕ → Type 0
HasEdge firsts targets v w = (k : ℕ) × IsEdge firsts targets v k w

-- by one edge or more
pub data LeadsTo (firsts targets : List ℕ) : ℕ → ℕ → Type 0 where
  one : {v w : ℕ} → HasEdge firsts targets v w → LeadsTo firsts targets v w
  more : {v w x : ℕ} → HasEdge firsts targets v w → LeadsTo firsts targets w x
      → LeadsTo firsts targets v x

-- by no edge or more
pub data CanReach (firsts targets : List ℕ) : ℕ → ℕ → Type 0 where
  here : {v : ℕ} → CanReach firsts targets v v
  on : {v w x : ℕ} → HasEdge firsts targets v w → CanReach firsts targets w x
      → CanReach firsts targets v x

-- the nodes in an order in which those on no cycle stand after all their targets, and a flag for each node that is on a cycle
pub record Orders (firsts targets order : List ℕ) (circular : List Bool) : Type 0 where
  pub flags : length circular ≡ vertex_count firsts
  pub are_nodes : (k : ℕ) → k < length order → slice_index order k < vertex_count firsts
  pub all : (v : ℕ) → v < vertex_count firsts → (k : ℕ) × (k < length order)
      × (slice_index order k ≡ v)
  pub once : (j k : ℕ) → j < length order → k < length order
      → slice_index order j ≡ slice_index order k → j ≡ k
  pub earlier : (k w : ℕ) → k < length order
      → slice_index_or circular (slice_index order k) false ≡ false
      → HasEdge firsts targets (slice_index order k) w
      → (j : ℕ) × (j < k) × (slice_index order j ≡ w)
  pub on_cycle : (v : ℕ) → v < vertex_count firsts → slice_index_or circular v false ≡ true
      → LeadsTo firsts targets v v
  pub on_none : (v : ℕ) → v < vertex_count firsts → slice_index_or circular v false ≡ false
      → LeadsTo firsts targets v v → ⊥
