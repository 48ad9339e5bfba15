-- The graph of two tables: from x to each number in row x of either.
use Rattle.std.specs.Prelude.{◌≡◌, ℕ, ◌+◌, ◌<◌, Bool, false, List, ◌⊎◌, ◌↔◌, Contains, IsTrue, length, slice_index}
use Rattle.std.specs.List.{slice_index_or}
use Rattle.graph_order.specs.Graphs.{HasEdge}
use Rattle.smv_static.specs.Numbers.{row}

abbrev pub Edge : List (List ℕ) → List (List ℕ) → ℕ → ℕ → Type 0
Edge base extra x y = Contains (row base x) y ⊎ Contains (row extra x) y

-- a way in the graph, perhaps of no step
pub data Way (base extra : List (List ℕ)) : ℕ → ℕ → Type 0 where
  stay : {x : ℕ} → Way base extra x x
  step : {x y z : ℕ} → Edge base extra x y → Way base extra y z → Way base extra x z

-- a way of at least one step leads from x back to x
abbrev pub LiesOnCycle : List (List ℕ) → List (List ℕ) → ℕ → Type 0
LiesOnCycle base extra x = (y : ℕ) × Edge base extra x y × Way base extra y x

-- the flag of x is set exactly where x lies on a cycle
abbrev pub AreCycleFlags : List (List ℕ) → List (List ℕ) → List Bool → Type 0
AreCycleFlags base extra flags
    = (x : ℕ) → IsTrue (slice_index_or flags x false) ↔ LiesOnCycle base extra x

-- a list of targets with the first of each node, in which the nodes below count have the edges of the two tables
pub record HasRows (base extra : List (List ℕ)) (variables count : ℕ)
    (firsts targets : List ℕ) : Type 0 where
  pub nodes : length firsts ≡ count + 1
  pub full : slice_index firsts count ≡ length targets
  pub below : (k : ℕ) → k < length targets → slice_index targets k < variables
  pub edges : (x y : ℕ) → x < count → HasEdge firsts targets x y ↔ Edge base extra x y
