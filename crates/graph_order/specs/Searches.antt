-- What a search along the edges of a graph keeps (Gabow, "Path-based depth-first search for strong and biconnected components").
use Rattle.std.specs.Prelude.{◌≡◌, ℕ, ◌+◌, ◌-◌, ◌*◌, ◌<◌, ◌≤◌, ◌⊎◌, Bool, true, false, List, [], ◌∷◌, ◌++◌, length, slice_index, slice_index_or, slice_set, sum_by}
use Rattle.graph_order.specs.declared.graph.Graph.{Graph}
use Rattle.graph_order.specs.declared.order.Mark.{Mark}
use Rattle.graph_order.specs.declared.order.Frame.{Frame}
use Rattle.graph_order.specs.declared.order.Search.{Search}
use Rattle.graph_order.specs.Graphs.{vertex_count, IsEdge, HasEdge, LeadsTo, CanReach}

-- ---- the parts of a search

abbrev pub mark : List Mark → ℕ → Mark
mark marks v = slice_index_or marks v Mark.Unseen

abbrev pub no_frame : Frame
no_frame = record { node = 0; next = 0 }

abbrev pub node : List Frame → ℕ → ℕ
node stack i = (slice_index_or stack i no_frame).node

abbrev pub next : List Frame → ℕ → ℕ
next stack i = (slice_index_or stack i no_frame).next

abbrev pub flag : List Bool → ℕ → Bool
flag circular v = slice_index_or circular v false

abbrev pub last_of : List ℕ → ℕ
last_of xs = slice_index xs (length xs - 1)

abbrev pub first_of : Graph → ℕ → ℕ
first_of g v = slice_index g.firsts.items v

abbrev pub nodes : Graph → ℕ
nodes g = vertex_count g.firsts.items

abbrev pub Edge : Graph → ℕ → ℕ → Type 0
Edge g v w = HasEdge g.firsts.items g.targets.items v w

abbrev pub EdgeAt : Graph → ℕ → ℕ → ℕ → Type 0
EdgeAt g v k w = IsEdge g.firsts.items g.targets.items v k w

abbrev pub Reach : Graph → ℕ → ℕ → Type 0
Reach g v w = CanReach g.firsts.items g.targets.items v w

abbrev pub Leads : Graph → ℕ → ℕ → Type 0
Leads g v w = LeadsTo g.firsts.items g.targets.items v w

-- each bound that is at most i is at most j
abbrev pub IsAbove : List ℕ → ℕ → ℕ → Type 0
IsAbove bounds i j
    = (m : ℕ) → m < length bounds → slice_index bounds m ≤ i → slice_index bounds m ≤ j

-- w is ranked, or lies on the stack, in the component of place i or a later one
abbrev pub Within : List Mark → List ℕ → ℕ → ℕ → Type 0
Within marks bounds i w
    = ((r : ℕ) × (mark marks w ≡ Mark.Ranked r))
    ⊎ ((j : ℕ) × (mark marks w ≡ Mark.Stacked j) × IsAbove bounds i j)

-- no bound lies above i and at most at j
abbrev pub NoBound : List ℕ → ℕ → ℕ → Type 0
NoBound bounds i j
    = (m : ℕ) → m < length bounds → i < slice_index bounds m → slice_index bounds m ≤ j → ⊥

-- ---- what it keeps

-- the nodes on the stack
pub record KeepsStack (g : Graph) (marks : List Mark) (stack : List Frame)
    (bounds : List ℕ) : Type 0 where
  pub size : length marks ≡ nodes g
  pub stacked : (i : ℕ) → i < length stack → mark marks (node stack i) ≡ Mark.Stacked i
  pub placed : (w i : ℕ) → mark marks w ≡ Mark.Stacked i → (i < length stack) × (node stack i ≡ w)
  pub below : (i : ℕ) → i < length stack → node stack i < nodes g
  pub forward : (i j : ℕ) → i ≤ j → j < length stack → Reach g (node stack i) (node stack j)
  pub backward : (i j : ℕ) → i ≤ j → j < length stack → NoBound bounds i j
      → Reach g (node stack j) (node stack i)
  pub begun : (i : ℕ) → i < length stack → first_of g (node stack i) ≤ next stack i
  pub ended : (i : ℕ) → i < length stack → next stack i ≤ first_of g (node stack i + 1)
  pub scanned : (i k w : ℕ) → i < length stack → EdgeAt g (node stack i) k w → k < next stack i
      → Within marks bounds i w

-- the path to the node that is worked on, and the bounds of the components on it
pub record KeepsPath (g : Graph) (stack : List Frame) (path bounds : List ℕ) : Type 0 where
  pub finished : (i : ℕ) → i < length stack
      → ((m : ℕ) × (m < length path) × (slice_index path m ≡ i))
      ⊎ (next stack i ≡ first_of g (node stack i + 1))
  pub rising : (l m : ℕ) → l < m → m < length path → slice_index path l < slice_index path m
  pub high : (m : ℕ) → m < length path → slice_index path m < length stack
  pub bounds_rising : (l m : ℕ) → l < m → m < length bounds
      → slice_index bounds l < slice_index bounds m
  pub bounds_on_path : (m : ℕ) → m < length bounds → (l : ℕ) × (l < length path)
      × (slice_index path l ≡ slice_index bounds m)
  pub begins : 0 < length path → (0 < length bounds) × (slice_index path 0 ≡ 0)
      × (slice_index bounds 0 ≡ 0)
  pub empty : length path ≡ 0 → length stack ≡ 0

-- the nodes that are ranked
pub record KeepsRanks (g : Graph) (marks : List Mark) (order : List ℕ)
    (circular : List Bool) : Type 0 where
  pub flags : length circular ≡ nodes g
  pub ranked : (k : ℕ) → k < length order → mark marks (slice_index order k) ≡ Mark.Ranked k
  pub below : (k : ℕ) → k < length order → slice_index order k < nodes g
  pub ordered : (w k : ℕ) → mark marks w ≡ Mark.Ranked k → (k < length order)
      × (slice_index order k ≡ w)
  pub closed : (k x : ℕ) → k < length order → Edge g (slice_index order k) x → (r : ℕ)
      × (mark marks x ≡ Mark.Ranked r)
  pub earlier : (k : ℕ) → k < length order → flag circular (slice_index order k) ≡ false
      → (j x : ℕ) → j ≤ k → Edge g (slice_index order j) x → (r : ℕ) × (r < k)
      × (mark marks x ≡ Mark.Ranked r)
  pub on_cycle : (k : ℕ) → k < length order → flag circular (slice_index order k) ≡ true
      → Leads g (slice_index order k) (slice_index order k)

pub record Keeps (g : Graph) (s : Search) : Type 0 where
  pub stack : KeepsStack g s.marks.items s.stack.items s.bounds.items
  pub path : KeepsPath g s.stack.items s.path.items s.bounds.items
  pub ranks : KeepsRanks g s.marks.items s.order.items s.circular.items

abbrev pub is_unseen : Mark → Bool
is_unseen Mark.Unseen = true
is_unseen (Mark.Stacked i) = false
is_unseen (Mark.Ranked r) = false

-- what was seen stays seen
abbrev pub KeepsSeen : Search → Search → Type 0
KeepsSeen old new
    = (w : ℕ) → is_unseen (mark old.marks.items w) ≡ false
    → is_unseen (mark new.marks.items w) ≡ false

-- ---- how much is left to do

-- the targets of a frame's node that were not looked at
abbrev pub targets_left : Graph → Frame → ℕ
targets_left g f = first_of g (f.node + 1) - f.next

abbrev pub unseen_count : Mark → ℕ
unseen_count Mark.Unseen = 1
unseen_count (Mark.Stacked i) = 0
unseen_count (Mark.Ranked r) = 0

abbrev pub work_left : Graph → Search → ℕ
work_left g s
    = sum_by unseen_count s.marks.items * (length g.targets.items + 2) + sum_by
    (targets_left g) s.stack.items + length s.path.items

-- ---- the steps

-- a node comes on the stack
pub record Enters (v first : ℕ) (old new : Search) : Type 0 where
  pub marks : new.marks.items ≡ slice_set old.marks.items v (Mark.Stacked (length old.stack.items))
  pub stack : new.stack.items ≡ old.stack.items ++ record { node = v; next = first } ∷ []
  pub path : new.path.items ≡ old.path.items ++ length old.stack.items ∷ []
  pub bounds : new.bounds.items ≡ old.bounds.items ++ length old.stack.items ∷ []
  pub order : new.order.items ≡ old.order.items
  pub circular : new.circular.items ≡ old.circular.items

-- the components above a place are joined with that of the place, to which the last node of the path leads
abbrev pub Joins : ℕ → Search → Search → Type 0
Joins place old new
    = (g : Graph) → KeepsStack g old.marks.items old.stack.items old.bounds.items
    → KeepsPath g old.stack.items old.path.items old.bounds.items
    → 0 < length old.path.items
    → Reach g (node old.stack.items (last_of old.path.items)) (node old.stack.items place)
    → KeepsStack g new.marks.items new.stack.items new.bounds.items
    × KeepsPath g new.stack.items new.path.items new.bounds.items

-- the nodes from a place of the stack on are put in the order
pub record RanksFrom (bottom : ℕ) (circular : Bool) (stack : List Frame)
    (old_marks new_marks : List Mark) (old_order new_order : List ℕ)
    (old_flags new_flags : List Bool) (reached : ℕ) : Type 0 where
  pub marks : length new_marks ≡ length old_marks
  pub flags : length new_flags ≡ length old_flags
  pub order : length new_order ≡ length old_order + (reached - bottom)
  pub order_old : (k : ℕ) → k < length old_order → slice_index new_order k ≡ slice_index old_order k
  pub order_new : (i : ℕ) → bottom ≤ i → i < reached
      → slice_index new_order (length old_order + (i - bottom)) ≡ node stack i
  pub marks_new : (i : ℕ) → bottom ≤ i → i < reached
      → mark new_marks (node stack i) ≡ Mark.Ranked (length old_order + (i - bottom))
  pub marks_old : (w : ℕ) → ((i : ℕ) → bottom ≤ i → i < reached → node stack i ≡ w → ⊥)
      → mark new_marks w ≡ mark old_marks w
  pub flags_new : (i : ℕ) → bottom ≤ i → i < reached → flag new_flags (node stack i) ≡ circular
  pub flags_old : (w : ℕ) → ((i : ℕ) → bottom ≤ i → i < reached → node stack i ≡ w → ⊥)
      → flag new_flags w ≡ flag old_flags w

-- what comes of looking at the target w from the last node of the path
pub record LooksAt (g : Graph) (w : ℕ) (old new : Search) : Type 0 where
  pub keeps : Keeps g new
  pub within : Within new.marks.items new.bounds.items (last_of old.path.items) w
  pub frames : (i : ℕ) → i < length old.stack.items
      → slice_index_or new.stack.items i no_frame ≡ slice_index_or old.stack.items i no_frame
  pub grown : length old.stack.items ≤ length new.stack.items
  pub path : (m : ℕ) → m < length old.path.items → (m < length new.path.items)
      × (slice_index new.path.items m ≡ slice_index old.path.items m)
  pub seen : KeepsSeen old new
  pub work : work_left g new ≤ work_left g old

-- a step of the search
pub record Steps (g : Graph) (old new : Search) : Type 0 where
  pub keeps : Keeps g new
  pub seen : KeepsSeen old new
  pub work : work_left g new < work_left g old

-- the search has come to the end of its path
pub record Ends (g : Graph) (old new : Search) : Type 0 where
  pub keeps : Keeps g new
  pub seen : KeepsSeen old new
  pub empty : length new.path.items ≡ 0
