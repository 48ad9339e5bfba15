-- Each step of the search keeps what it keeps.
use Rattle.std.proofs.Common.{◌≡◌, refl, sym, ◌∙◌, ap, subst, ℕ, ◌+◌, ◌-◌, ◌<◌, ◌≤◌, arith, List, [], ◌∷◌, ◌++◌, length, get_or, set, take, Bool, ◌⊎◌, inl, inr}
use Rattle.std.proofs.lemmas.List.{length_push, get_or-set_same, get_or-set_other, length-set}
use Rattle.std.proofs.lemmas.Bool.{cases_lt, cases_eq}
use Rattle.graph_order.specs.declared.graph.Graph.{Graph}
use Rattle.graph_order.specs.declared.order.Mark.{Mark}
use Rattle.graph_order.specs.declared.order.Frame.{Frame}
use Rattle.graph_order.specs.Graphs.{CanReach}
use Rattle.graph_order.specs.Searches.{mark, no_frame, node, next, last_of, first_of, nodes, EdgeAt, Reach, IsAbove, Within, NoBound, KeepsStack, KeepsPath, KeepsRanks}
use Rattle.graph_order.proofs.GraphLemmas.{reach_trans, reach_at, push_old, push_new, push_index, push_up, push_last, popped_length, popped_old}

-- ---- marks differ

pub unseen_stacked : {m : Mark} {i : ℕ} → m ≡ Mark.Unseen → m ≡ Mark.Stacked i → ⊥
unseen_stacked p q = cc

pub unseen_ranked : {m : Mark} {i : ℕ} → m ≡ Mark.Unseen → m ≡ Mark.Ranked i → ⊥
unseen_ranked p q = cc

pub stacked_ranked : {m : Mark} {i r : ℕ} → m ≡ Mark.Stacked i → m ≡ Mark.Ranked r → ⊥
stacked_ranked p q = cc

pub stacked_same : {m : Mark} {i j : ℕ} → m ≡ Mark.Stacked i → m ≡ Mark.Stacked j → i ≡ j
stacked_same p q = cc

pub ranked_same : {m : Mark} {i j : ℕ} → m ≡ Mark.Ranked i → m ≡ Mark.Ranked j → i ≡ j
ranked_same p q = cc

-- ---- the last node of the path

-- no bound lies above it
pub bounds_low : (g : Graph) (stack : List Frame) (path bounds : List ℕ) → KeepsPath g stack path bounds → (m : ℕ) → m < length bounds → get_or bounds m 0 ≤ last_of path
bounds_low g stack path bounds kp m h = go (cases_eq (kp.bounds_on_path m h).0 (length path - 1))
  where
    go : ((kp.bounds_on_path m h).0 ≡ length path - 1) ⊎ ((kp.bounds_on_path m h).0 ≡ length path - 1 → ⊥) → get_or bounds m 0 ≤ last_of path
    go (inl e) = omega (arith, (kp.bounds_on_path m h).2, ap (λ i. get_or path i 0) e)
    go (inr other) = omega (arith, (kp.bounds_on_path m h).2, kp.rising (kp.bounds_on_path m h).0 (length path - 1) (omega (arith, (kp.bounds_on_path m h).1)) (omega (arith, (kp.bounds_on_path m h).1)))

-- every node on the stack leads to it
pub top_reached : (g : Graph) (marks : List Mark) (stack : List Frame) (path bounds : List ℕ) → KeepsStack g marks stack bounds → KeepsPath g stack path bounds → 0 < length path
    → (i : ℕ) → i < length stack → Reach g (node stack i) (node stack (last_of path))
top_reached g marks stack path bounds ks kp some i h = go (cases_lt (last_of path) i)
  where
    go : (last_of path < i) ⊎ (i ≤ last_of path) → Reach g (node stack i) (node stack (last_of path))
    go (inl above) = ks.backward (last_of path) i (omega (arith, above)) h (λ m hm low high. omega (arith, bounds_low g stack path bounds kp m hm, low))
    go (inr low) = ks.forward i (last_of path) low (kp.high (length path - 1) (omega (arith, some)))

-- ---- a node comes on the stack

module _ (g : Graph) (marks : List Mark) (stack : List Frame) (path bounds : List ℕ) (v : ℕ)
    (ks : KeepsStack g marks stack bounds) (kp : KeepsPath g stack path bounds)
    (unseen : mark marks v ≡ Mark.Unseen) (is_node : v < nodes g) (rises : first_of g v ≤ first_of g (v + 1))
    (reached : (i : ℕ) → i < length stack → Reach g (node stack i) v) where
  abbrev frame : Frame
  frame = record { node = v; next = first_of g v }

  abbrev marks' : List Mark
  marks' = set marks v (Mark.Stacked (length stack))

  abbrev stack' : List Frame
  stack' = stack ++ frame ∷ []

  abbrev path' : List ℕ
  path' = path ++ length stack ∷ []

  abbrev bounds' : List ℕ
  bounds' = bounds ++ length stack ∷ []

  node_old : (i : ℕ) → i < length stack → node stack' i ≡ node stack i
  node_old i h = ap (λ (f : Frame). f.node) (push_old stack frame i no_frame h)

  next_old : (i : ℕ) → i < length stack → next stack' i ≡ next stack i
  next_old i h = ap (λ (f : Frame). f.next) (push_old stack frame i no_frame h)

  node_new : (i : ℕ) → i ≡ length stack → node stack' i ≡ v
  node_new i e = ap (λ z. node stack' z) e ∙ ap (λ (f : Frame). f.node) (push_new stack frame no_frame)

  next_new : (i : ℕ) → i ≡ length stack → next stack' i ≡ first_of g v
  next_new i e = ap (λ z. next stack' z) e ∙ ap (λ (f : Frame). f.next) (push_new stack frame no_frame)

  bound_new : (m : ℕ) → m ≡ length bounds → get_or bounds' m 0 ≡ length stack
  bound_new m e = ap (λ z. get_or bounds' z 0) e ∙ push_new bounds (length stack) 0

  path_new : (m : ℕ) → m ≡ length path → get_or path' m 0 ≡ length stack
  path_new m e = ap (λ z. get_or path' z 0) e ∙ push_new path (length stack) 0

  mark_new : (w : ℕ) → w ≡ v → mark marks' w ≡ Mark.Stacked (length stack)
  mark_new w e = ap (λ z. mark marks' z) e ∙ get_or-set_same marks v (Mark.Stacked (length stack)) Mark.Unseen (omega (arith, ks.size, is_node))

  mark_old : (w : ℕ) → (w ≡ v → ⊥) → mark marks' w ≡ mark marks w
  mark_old w other = get_or-set_other marks v w (Mark.Stacked (length stack)) Mark.Unseen other

  not_stacked : (w i : ℕ) → mark marks w ≡ Mark.Stacked i → w ≡ v → ⊥
  not_stacked w i is e = unseen_stacked (ap (λ z. mark marks z) e ∙ unseen) is

  not_ranked : (w i : ℕ) → mark marks w ≡ Mark.Ranked i → w ≡ v → ⊥
  not_ranked w i is e = unseen_ranked (ap (λ z. mark marks z) e ∙ unseen) is

  keeps_ranked : (w i : ℕ) → mark marks w ≡ Mark.Ranked i → mark marks' w ≡ Mark.Ranked i
  keeps_ranked w i is = mark_old w (not_ranked w i is) ∙ is

  above_up : (i j : ℕ) → i < length stack → IsAbove bounds i j → IsAbove bounds' i j
  above_up i j h low m hm le = go (push_index bounds (length stack) m hm)
    where
      go : (m < length bounds) ⊎ (m ≡ length bounds) → get_or bounds' m 0 ≤ j
      go (inl old) = omega (arith, push_old bounds (length stack) m 0 old, low m old (omega (arith, push_old bounds (length stack) m 0 old, le)))
      go (inr new) = absurd (omega (arith, le, bound_new m new, h))

  within_up : (i w : ℕ) → i < length stack → Within marks bounds i w → Within marks' bounds' i w
  within_up i w h (inl (r, e)) = inl (r, keeps_ranked w r e)
  within_up i w h (inr (j, e, low)) = inr (j, mark_old w (not_stacked w j e) ∙ e, above_up i j h low)

  stacked_at : (i : ℕ) → (i < length stack) ⊎ (i ≡ length stack) → mark marks' (node stack' i) ≡ Mark.Stacked i
  stacked_at i (inl h) = ap (λ z. mark marks' z) (node_old i h) ∙ mark_old (node stack i) (not_stacked (node stack i) i (ks.stacked i h)) ∙ ks.stacked i h
  stacked_at i (inr e) = mark_new (node stack' i) (node_new i e) ∙ ap (λ z. Mark.Stacked z) (sym e)

  placed_at : (w i : ℕ) → mark marks' w ≡ Mark.Stacked i → (w ≡ v) ⊎ (w ≡ v → ⊥) → (i < length stack') × (node stack' i ≡ w)
  placed_at w i is (inl e) =
      let same : i ≡ length stack = stacked_same is (mark_new w e) in
      (omega (arith, same, push_last stack frame), node_new i same ∙ sym e)
  placed_at w i is (inr other) =
      let old = ks.placed w i (sym (mark_old w other) ∙ is) in
      (push_up stack frame i old.0, node_old i old.0 ∙ old.1)

  below_at : (i : ℕ) → (i < length stack) ⊎ (i ≡ length stack) → node stack' i < nodes g
  below_at i (inl h) = omega (arith, node_old i h, ks.below i h)
  below_at i (inr e) = omega (arith, node_new i e, is_node)

  forward_at : (i j : ℕ) → i ≤ j → (j < length stack) ⊎ (j ≡ length stack) → (i < length stack) ⊎ (length stack ≤ i) → Reach g (node stack' i) (node stack' j)
  forward_at i j le (inl h) both = reach_at (sym (node_old i (omega (arith, h, le)))) (sym (node_old j h)) (ks.forward i j le h)
  forward_at i j le (inr e) (inl low) = reach_at (sym (node_old i low)) (sym (node_new j e)) (reached i low)
  forward_at i j le (inr e) (inr high) = reach_at refl (ap (λ z. node stack' z) (omega (arith, le, e, high))) CanReach.here

  backward_at : (i j : ℕ) → i ≤ j → NoBound bounds' i j → (j < length stack) ⊎ (j ≡ length stack) → (i < length stack) ⊎ (length stack ≤ i) → Reach g (node stack' j) (node stack' i)
  backward_at i j le none (inl h) both = reach_at (sym (node_old j h)) (sym (node_old i (omega (arith, h, le))))
      (ks.backward i j le h (λ m hm low high. none m (push_up bounds (length stack) m hm) (omega (arith, push_old bounds (length stack) m 0 hm, low)) (omega (arith, push_old bounds (length stack) m 0 hm, high))))
  backward_at i j le none (inr e) (inl low) = absurd (none (length bounds) (push_last bounds (length stack)) (omega (arith, push_new bounds (length stack) 0, low)) (omega (arith, push_new bounds (length stack) 0, e)))
  backward_at i j le none (inr e) (inr high) = reach_at refl (ap (λ z. node stack' z) (omega (arith, le, e, high))) CanReach.here

  begun_at : (i : ℕ) → (i < length stack) ⊎ (i ≡ length stack) → first_of g (node stack' i) ≤ next stack' i
  begun_at i (inl h) = omega (arith, ap (λ z. first_of g z) (node_old i h), next_old i h, ks.begun i h)
  begun_at i (inr e) = omega (arith, ap (λ z. first_of g z) (node_new i e), next_new i e)

  ended_at : (i : ℕ) → (i < length stack) ⊎ (i ≡ length stack) → next stack' i ≤ first_of g (node stack' i + 1)
  ended_at i (inl h) = omega (arith, ap (λ z. first_of g (z + 1)) (node_old i h), next_old i h, ks.ended i h)
  ended_at i (inr e) = omega (arith, ap (λ z. first_of g (z + 1)) (node_new i e), next_new i e, rises)

  scanned_at : (i k w : ℕ) → EdgeAt g (node stack' i) k w → k < next stack' i → (i < length stack) ⊎ (i ≡ length stack) → Within marks' bounds' i w
  scanned_at i k w edge below (inl h) = within_up i w h (ks.scanned i k w h (subst (λ z. EdgeAt g z k w) (node_old i h) edge) (omega (arith, next_old i h, below)))
  scanned_at i k w edge below (inr e) = absurd (omega (arith, edge.from, below, ap (λ z. first_of g z) (node_new i e), next_new i e))

  pub stack_entered : KeepsStack g marks' stack' bounds'
  stack_entered = record {
    size = length-set marks v (Mark.Stacked (length stack)) ∙ ks.size;
    stacked = λ i h. stacked_at i (push_index stack frame i h);
    placed = λ w i is. placed_at w i is (cases_eq w v);
    below = λ i h. below_at i (push_index stack frame i h);
    forward = λ i j le h. forward_at i j le (push_index stack frame j h) (cases_lt i (length stack));
    backward = λ i j le h none. backward_at i j le none (push_index stack frame j h) (cases_lt i (length stack));
    begun = λ i h. begun_at i (push_index stack frame i h);
    ended = λ i h. ended_at i (push_index stack frame i h);
    scanned = λ i k w h edge below. scanned_at i k w edge below (push_index stack frame i h);
  }

  finished_at : (i : ℕ) → (i < length stack) ⊎ (i ≡ length stack) → ((m : ℕ) × (m < length path') × (get_or path' m 0 ≡ i)) ⊎ (next stack' i ≡ first_of g (node stack' i + 1))
  finished_at i (inl h) = go (kp.finished i h)
    where
      go : ((m : ℕ) × (m < length path) × (get_or path m 0 ≡ i)) ⊎ (next stack i ≡ first_of g (node stack i + 1)) → ((m : ℕ) × (m < length path') × (get_or path' m 0 ≡ i)) ⊎ (next stack' i ≡ first_of g (node stack' i + 1))
      go (inl (m, hm, e)) = inl (m, push_up path (length stack) m hm, push_old path (length stack) m 0 hm ∙ e)
      go (inr e) = inr (next_old i h ∙ e ∙ sym (ap (λ z. first_of g (z + 1)) (node_old i h)))
  finished_at i (inr e) = inl (length path, push_last path (length stack), push_new path (length stack) 0 ∙ sym e)

  rising_at : (l m : ℕ) → l < m → (m < length path) ⊎ (m ≡ length path) → get_or path' l 0 < get_or path' m 0
  rising_at l m lt (inl h) = omega (arith, push_old path (length stack) l 0 (omega (arith, lt, h)), push_old path (length stack) m 0 h, kp.rising l m lt h)
  rising_at l m lt (inr e) = omega (arith, push_old path (length stack) l 0 (omega (arith, lt, e)), path_new m e, kp.high l (omega (arith, lt, e)))

  high_at : (m : ℕ) → (m < length path) ⊎ (m ≡ length path) → get_or path' m 0 < length stack'
  high_at m (inl h) = omega (arith, push_old path (length stack) m 0 h, kp.high m h, length_push stack frame)
  high_at m (inr e) = omega (arith, path_new m e, length_push stack frame)

  bounds_rising_at : (l m : ℕ) → l < m → (m < length bounds) ⊎ (m ≡ length bounds) → get_or bounds' l 0 < get_or bounds' m 0
  bounds_rising_at l m lt (inl h) = omega (arith, push_old bounds (length stack) l 0 (omega (arith, lt, h)), push_old bounds (length stack) m 0 h, kp.bounds_rising l m lt h)
  bounds_rising_at l m lt (inr e) =
      let on = kp.bounds_on_path l (omega (arith, lt, e)) in
      omega (arith, push_old bounds (length stack) l 0 (omega (arith, lt, e)), bound_new m e, on.2, kp.high on.0 on.1)

  on_path_at : (m : ℕ) → (m < length bounds) ⊎ (m ≡ length bounds) → (l : ℕ) × (l < length path') × (get_or path' l 0 ≡ get_or bounds' m 0)
  on_path_at m (inl h) =
      let on = kp.bounds_on_path m h in
      (on.0, push_up path (length stack) on.0 on.1, push_old path (length stack) on.0 0 on.1 ∙ on.2 ∙ sym (push_old bounds (length stack) m 0 h))
  on_path_at m (inr e) = (length path, push_last path (length stack), push_new path (length stack) 0 ∙ sym (bound_new m e))

  begins_at : (0 < length path) ⊎ (length path ≤ 0) → (0 < length bounds) ⊎ (length bounds ≤ 0) → (0 < length bounds') × (get_or path' 0 0 ≡ 0) × (get_or bounds' 0 0 ≡ 0)
  begins_at (inl some) both =
      let b = kp.begins some in
      (omega (arith, length_push bounds (length stack)), push_old path (length stack) 0 0 some ∙ b.1, push_old bounds (length stack) 0 0 b.0 ∙ b.2)
  begins_at (inr none) (inl some) = absurd (omega (arith, none, (kp.bounds_on_path 0 some).1))
  begins_at (inr none) (inr no_bound) =
      let flat : length stack ≡ 0 = kp.empty (omega (arith, none)) in
      (omega (arith, length_push bounds (length stack)), path_new 0 (omega (arith, none)) ∙ flat, bound_new 0 (omega (arith, no_bound)) ∙ flat)

  pub path_entered : KeepsPath g stack' path' bounds'
  path_entered = record {
    finished = λ i h. finished_at i (push_index stack frame i h);
    rising = λ l m lt h. rising_at l m lt (push_index path (length stack) m h);
    high = λ m h. high_at m (push_index path (length stack) m h);
    bounds_rising = λ l m lt h. bounds_rising_at l m lt (push_index bounds (length stack) m h);
    bounds_on_path = λ m h. on_path_at m (push_index bounds (length stack) m h);
    begins = λ h. begins_at (cases_lt 0 (length path)) (cases_lt 0 (length bounds));
    empty = λ e. absurd (omega (arith, length_push path (length stack), e));
  }

  pub ranks_entered : (order : List ℕ) (circular : List Bool) → KeepsRanks g marks order circular → KeepsRanks g marks' order circular
  ranks_entered order circular kr = record {
    flags = kr.flags;
    ranked = λ k h. keeps_ranked (get_or order k 0) k (kr.ranked k h);
    below = kr.below;
    ordered = λ w k is. ordered_at w k is (cases_eq w v);
    closed = λ k x h edge. let c = kr.closed k x h edge in (c.0, keeps_ranked x c.0 c.1);
    earlier = λ k h no j x le edge. let c = kr.earlier k h no j x le edge in (c.0, c.1, keeps_ranked x c.0 c.2);
    on_cycle = kr.on_cycle;
  }
    where
      ordered_at : (w k : ℕ) → mark marks' w ≡ Mark.Ranked k → (w ≡ v) ⊎ (w ≡ v → ⊥) → (k < length order) × (get_or order k 0 ≡ w)
      ordered_at w k is (inl e) = absurd (stacked_ranked (mark_new w e) is)
      ordered_at w k is (inr other) = kr.ordered w k (sym (mark_old w other) ∙ is)

-- ---- two components are joined

module _ (g : Graph) (marks : List Mark) (stack : List Frame) (path bounds : List ℕ) (place : ℕ)
    (ks : KeepsStack g marks stack bounds) (kp : KeepsPath g stack path bounds)
    (some : 0 < length path) (edge : Reach g (node stack (last_of path)) (node stack place)) (low : place < last_of bounds) (bounded : 0 < length bounds) where
  abbrev fewer : List ℕ
  fewer = take (length bounds - 1) bounds

  fewer_up : (m : ℕ) → m < length fewer → m < length bounds - 1
  fewer_up m h = omega (arith, h, popped_length bounds)

  fewer_is : (m : ℕ) → m < length fewer → get_or fewer m 0 ≡ get_or bounds m 0
  fewer_is m h = popped_old bounds m (fewer_up m h)

  -- an old bound is one of the fewer or the last
  no_bound : (i j : ℕ) → NoBound fewer i j → (last_of bounds ≤ i) ⊎ (j < last_of bounds) → NoBound bounds i j
  no_bound i j none apart m hm from to = go (cases_lt m (length bounds - 1)) apart
    where
      go : (m < length bounds - 1) ⊎ (length bounds - 1 ≤ m) → (last_of bounds ≤ i) ⊎ (j < last_of bounds) → ⊥
      go (inl early) both =
          let e = popped_old bounds m early in
          none m (omega (arith, early, popped_length bounds)) (omega (arith, e, from)) (omega (arith, e, to))
      go (inr late) (inl under) = omega (arith, under, from, ap (λ z. get_or bounds z 0) (let e : m ≡ length bounds - 1 = omega (arith, late, hm) in e))
      go (inr late) (inr over) = omega (arith, over, to, ap (λ z. get_or bounds z 0) (let e : m ≡ length bounds - 1 = omega (arith, late, hm) in e))

  -- from the upper component to the lower one
  across : (i j : ℕ) → j < length stack → i < last_of bounds → last_of bounds ≤ j → NoBound fewer i j → (i < place) ⊎ (place ≤ i) → Reach g (node stack j) (node stack i)
  across i j h under over none (inl before) = reach_trans (top_reached g marks stack path bounds ks kp some j h) (reach_trans edge
      (ks.backward i place (omega (arith, before)) (omega (arith, low, over, h))
      (no_bound i place (λ m hm from to. none m hm from (omega (arith, to, low, over))) (inr low))))
  across i j h under over none (inr after) = reach_trans (top_reached g marks stack path bounds ks kp some j h) (reach_trans edge
      (ks.forward place i after (omega (arith, under, over, h))))

  backward_at' : (i j : ℕ) → i ≤ j → j < length stack → NoBound fewer i j → (i < last_of bounds) ⊎ (last_of bounds ≤ i) → (j < last_of bounds) ⊎ (last_of bounds ≤ j) → Reach g (node stack j) (node stack i)
  backward_at' i j le h none (inr over) both = ks.backward i j le h (no_bound i j none (inl over))
  backward_at' i j le h none (inl under) (inl apart) = ks.backward i j le h (no_bound i j none (inr apart))
  backward_at' i j le h none (inl under) (inr over) = across i j h under over none (cases_lt i place)

  within_fewer : (i w : ℕ) → Within marks bounds i w → Within marks fewer i w
  within_fewer i w (inl r) = inl r
  within_fewer i w (inr (j, is, above)) = inr (j, is, λ m hm le. omega (arith, fewer_is m hm, above m (omega (arith, fewer_up m hm)) (omega (arith, fewer_is m hm, le))))

  pub stack_joined : KeepsStack g marks stack fewer
  stack_joined = record {
    size = ks.size;
    stacked = ks.stacked;
    placed = ks.placed;
    below = ks.below;
    forward = ks.forward;
    backward = λ i j le h none. backward_at' i j le h none (cases_lt i (last_of bounds)) (cases_lt j (last_of bounds));
    begun = ks.begun;
    ended = ks.ended;
    scanned = λ i k w h e below. within_fewer i w (ks.scanned i k w h e below);
  }

  more_bounds : 1 < length bounds
  more_bounds = go (cases_lt 1 (length bounds))
    where
      go : (1 < length bounds) ⊎ (length bounds ≤ 1) → 1 < length bounds
      go (inl h) = h
      go (inr h) = absurd (omega (arith, low, (kp.begins some).2, ap (λ z. get_or bounds z 0) (let e : length bounds - 1 ≡ 0 = omega (arith, h) in e)))

  pub path_joined : KeepsPath g stack path fewer
  path_joined = record {
    finished = kp.finished;
    rising = kp.rising;
    high = kp.high;
    bounds_rising = λ l m lt h. omega (arith, fewer_is l (omega (arith, lt, h)), fewer_is m h, kp.bounds_rising l m lt (omega (arith, fewer_up m h)));
    bounds_on_path = λ m h. let on = kp.bounds_on_path m (omega (arith, fewer_up m h)) in (on.0, on.1, on.2 ∙ sym (fewer_is m h));
    begins = λ h. (omega (arith, popped_length bounds, more_bounds), (kp.begins some).1, fewer_is 0 (omega (arith, popped_length bounds, more_bounds)) ∙ (kp.begins some).2);
    empty = kp.empty;
  }
