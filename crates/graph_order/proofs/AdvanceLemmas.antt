-- The search looks at one target more, and leaves a node whose targets were all looked at.
use Rattle.std.proofs.Common.{◌≡◌, sym, ◌∙◌, ap, subst, ℕ, ◌+◌, ◌-◌, ◌<◌, ◌≤◌, arith, List, length, get_or, set, take, ◌⊎◌, inl, inr}
use Rattle.std.proofs.lemmas.List.{get_or-set_same, get_or-set_other, length-set}
use Rattle.std.proofs.lemmas.Bool.{cases_lt, cases_eq}
use Rattle.graph_order.specs.declared.graph.Graph.{Graph}
use Rattle.graph_order.specs.declared.order.Mark.{Mark}
use Rattle.graph_order.specs.declared.order.Frame.{Frame}
use Rattle.graph_order.specs.Searches.{mark, no_frame, node, next, last_of, first_of, EdgeAt, Within, KeepsStack, KeepsPath}
use Rattle.graph_order.proofs.GraphLemmas.{reach_at, popped_length, popped_old}

-- ---- one target more

module _ (g : Graph) (marks : List Mark) (stack : List Frame) (path bounds : List ℕ) (top w : ℕ)
    (ks : KeepsStack g marks stack bounds) (kp : KeepsPath g stack path bounds)
    (here : top < length stack) (edge : EdgeAt g (node stack top) (next stack top) w) (within : Within marks bounds top w)
    (on_path : (m : ℕ) × (m < length path) × (get_or path m 0 ≡ top)) where
  abbrev frame : Frame
  frame = record { node = node stack top; next = next stack top + 1 }

  abbrev stack' : List Frame
  stack' = set stack top frame

  same_length : length stack' ≡ length stack
  same_length = length-set stack top frame

  node_at : (i : ℕ) → (i ≡ top) ⊎ (i ≡ top → ⊥) → node stack' i ≡ node stack i
  node_at i (inl e) = ap (λ z. node stack' z) e ∙ ap (λ (f : Frame). f.node) (get_or-set_same stack top frame no_frame here) ∙ sym (ap (λ z. node stack z) e)
  node_at i (inr other) = ap (λ (f : Frame). f.node) (get_or-set_other stack top i frame no_frame other)

  node_is : (i : ℕ) → node stack' i ≡ node stack i
  node_is i = node_at i (cases_eq i top)

  next_top : (i : ℕ) → i ≡ top → next stack' i ≡ next stack top + 1
  next_top i e = ap (λ z. next stack' z) e ∙ ap (λ (f : Frame). f.next) (get_or-set_same stack top frame no_frame here)

  next_other : (i : ℕ) → (i ≡ top → ⊥) → next stack' i ≡ next stack i
  next_other i other = ap (λ (f : Frame). f.next) (get_or-set_other stack top i frame no_frame other)

  begun_at : (i : ℕ) → i < length stack → (i ≡ top) ⊎ (i ≡ top → ⊥) → first_of g (node stack' i) ≤ next stack' i
  begun_at i h (inl e) = omega (arith, ap (λ z. first_of g z) (node_is i ∙ ap (λ z. node stack z) e), next_top i e, ks.begun top here)
  begun_at i h (inr other) = omega (arith, ap (λ z. first_of g z) (node_is i), next_other i other, ks.begun i h)

  ended_at : (i : ℕ) → i < length stack → (i ≡ top) ⊎ (i ≡ top → ⊥) → next stack' i ≤ first_of g (node stack' i + 1)
  ended_at i h (inl e) = omega (arith, ap (λ z. first_of g (z + 1)) (node_is i ∙ ap (λ z. node stack z) e), next_top i e, edge.below)
  ended_at i h (inr other) = omega (arith, ap (λ z. first_of g (z + 1)) (node_is i), next_other i other, ks.ended i h)

  within_at : (i j x : ℕ) → i ≡ j → Within marks bounds j x → Within marks bounds i x
  within_at i j x e h = subst (λ z. Within marks bounds z x) (sym e) h

  scanned_old : (i k x : ℕ) → i < length stack → EdgeAt g (node stack' i) k x → k < next stack i → Within marks bounds i x
  scanned_old i k x h e below = ks.scanned i k x h (subst (λ z. EdgeAt g z k x) (node_is i) e) below

  scanned_at : (i k x : ℕ) → i < length stack → EdgeAt g (node stack' i) k x → k < next stack' i → (i ≡ top) ⊎ (i ≡ top → ⊥) → (k < next stack top) ⊎ (next stack top ≤ k) → Within marks bounds i x
  scanned_at i k x h e below (inr other) both = scanned_old i k x h e (omega (arith, next_other i other, below))
  scanned_at i k x h e below (inl is) (inl old) = scanned_old i k x h e (omega (arith, ap (λ z. next stack z) is, old))
  scanned_at i k x h e below (inl is) (inr new) =
      within_at i top x is (subst (λ z. Within marks bounds top z) (sym edge.target ∙ ap (λ z. get_or g.targets.items z 0) (let same : next stack top ≡ k = omega (arith, next_top i is, below, new) in same) ∙ e.target) within)

  pub stack_advanced : KeepsStack g marks stack' bounds
  stack_advanced = record {
    size = ks.size;
    stacked = λ i h. ap (λ z. mark marks z) (node_is i) ∙ ks.stacked i (omega (arith, h, same_length));
    placed = λ x i is. let old = ks.placed x i is in (omega (arith, old.0, same_length), node_is i ∙ old.1);
    below = λ i h. omega (arith, node_is i, ks.below i (omega (arith, h, same_length)));
    forward = λ i j le h. reach_at (sym (node_is i)) (sym (node_is j)) (ks.forward i j le (omega (arith, h, same_length)));
    backward = λ i j le h none. reach_at (sym (node_is j)) (sym (node_is i)) (ks.backward i j le (omega (arith, h, same_length)) none);
    begun = λ i h. begun_at i (omega (arith, h, same_length)) (cases_eq i top);
    ended = λ i h. ended_at i (omega (arith, h, same_length)) (cases_eq i top);
    scanned = λ i k x h e below. scanned_at i k x (omega (arith, h, same_length)) e below (cases_eq i top) (cases_lt k (next stack top));
  }

  finished_at : (i : ℕ) → i < length stack → (i ≡ top) ⊎ (i ≡ top → ⊥) → ((m : ℕ) × (m < length path) × (get_or path m 0 ≡ i)) ⊎ (next stack' i ≡ first_of g (node stack' i + 1))
  finished_at i h (inl e) = inl (on_path.0, on_path.1, on_path.2 ∙ sym e)
  finished_at i h (inr other) = go (kp.finished i h)
    where
      go : ((m : ℕ) × (m < length path) × (get_or path m 0 ≡ i)) ⊎ (next stack i ≡ first_of g (node stack i + 1)) → ((m : ℕ) × (m < length path) × (get_or path m 0 ≡ i)) ⊎ (next stack' i ≡ first_of g (node stack' i + 1))
      go (inl on) = inl on
      go (inr e) = inr (next_other i other ∙ e ∙ sym (ap (λ z. first_of g (z + 1)) (node_is i)))

  pub path_advanced : KeepsPath g stack' path bounds
  path_advanced = record {
    finished = λ i h. finished_at i (omega (arith, h, same_length)) (cases_eq i top);
    rising = kp.rising;
    high = λ m h. omega (arith, kp.high m h, same_length);
    bounds_rising = kp.bounds_rising;
    bounds_on_path = kp.bounds_on_path;
    begins = kp.begins;
    empty = λ e. same_length ∙ kp.empty e;
  }

-- ---- a node is left inside its component

module _ (g : Graph) (stack : List Frame) (path bounds : List ℕ) (kp : KeepsPath g stack path bounds)
    (some : 0 < length path) (done : next stack (last_of path) ≡ first_of g (node stack (last_of path) + 1)) (inside : last_of bounds < last_of path) where
  abbrev shorter : List ℕ
  shorter = take (length path - 1) path

  shorter_up : (m : ℕ) → m < length shorter → m < length path - 1
  shorter_up m h = omega (arith, h, popped_length path)

  shorter_down : (m : ℕ) → m < length path - 1 → m < length shorter
  shorter_down m h = omega (arith, h, popped_length path)

  shorter_is : (m : ℕ) → m < length shorter → get_or shorter m 0 ≡ get_or path m 0
  shorter_is m h = popped_old path m (shorter_up m h)

  last_bound : 0 < length bounds
  last_bound = (kp.begins some).0

  -- each bound is at most the last one
  bound_low : (m : ℕ) → m < length bounds → (m < length bounds - 1) ⊎ (length bounds - 1 ≤ m) → get_or bounds m 0 ≤ last_of bounds
  bound_low m h (inl early) = omega (arith, kp.bounds_rising m (length bounds - 1) early (omega (arith, last_bound)))
  bound_low m h (inr late) = omega (arith, ap (λ z. get_or bounds z 0) (let e : m ≡ length bounds - 1 = omega (arith, late, h) in e))

  -- a place on the path below the last one
  early_on : (l : ℕ) → l < length path → get_or path l 0 < last_of path → (l < length path - 1) ⊎ (length path - 1 ≤ l) → l < length path - 1
  early_on l h low (inl early) = early
  early_on l h low (inr late) = absurd (omega (arith, low, ap (λ z. get_or path z 0) (let e : l ≡ length path - 1 = omega (arith, late, h) in e)))

  finished_left : (i : ℕ) → i < length stack → ((m : ℕ) × (m < length shorter) × (get_or shorter m 0 ≡ i)) ⊎ (next stack i ≡ first_of g (node stack i + 1))
  finished_left i h = go (kp.finished i h)
    where
      last : (m : ℕ) → m < length path → get_or path m 0 ≡ i → (m < length path - 1) ⊎ (length path - 1 ≤ m) → ((m : ℕ) × (m < length shorter) × (get_or shorter m 0 ≡ i)) ⊎ (next stack i ≡ first_of g (node stack i + 1))
      last m hm e (inl early) = inl (m, shorter_down m early, popped_old path m early ∙ e)
      last m hm e (inr late) =
          let is : last_of path ≡ i = ap (λ z. get_or path z 0) (let same : length path - 1 ≡ m = omega (arith, late, hm) in same) ∙ e in
          inr (subst (λ z. next stack z ≡ first_of g (node stack z + 1)) is done)

      go : ((m : ℕ) × (m < length path) × (get_or path m 0 ≡ i)) ⊎ (next stack i ≡ first_of g (node stack i + 1)) → ((m : ℕ) × (m < length shorter) × (get_or shorter m 0 ≡ i)) ⊎ (next stack i ≡ first_of g (node stack i + 1))
      go (inl (m, hm, e)) = last m hm e (cases_lt m (length path - 1))
      go (inr e) = inr e

  on_path_left : (m : ℕ) → m < length bounds → (l : ℕ) × (l < length shorter) × (get_or shorter l 0 ≡ get_or bounds m 0)
  on_path_left m h =
      let on = kp.bounds_on_path m h in
      let early : on.0 < length path - 1 = early_on on.0 on.1 (omega (arith, on.2, bound_low m h (cases_lt m (length bounds - 1)), inside)) (cases_lt on.0 (length path - 1)) in
      (on.0, shorter_down on.0 early, popped_old path on.0 early ∙ on.2)

  longer : 1 < length path
  longer = go (cases_lt 1 (length path))
    where
      go : (1 < length path) ⊎ (length path ≤ 1) → 1 < length path
      go (inl h) = h
      go (inr h) = absurd (omega (arith, inside, (kp.begins some).1, ap (λ z. get_or path z 0) (let e : length path - 1 ≡ 0 = omega (arith, h) in e)))

  pub path_left : KeepsPath g stack shorter bounds
  path_left = record {
    finished = finished_left;
    rising = λ l m lt h. omega (arith, shorter_is l (omega (arith, lt, h)), shorter_is m h, kp.rising l m lt (omega (arith, shorter_up m h)));
    high = λ m h. omega (arith, shorter_is m h, kp.high m (omega (arith, shorter_up m h)));
    bounds_rising = kp.bounds_rising;
    bounds_on_path = on_path_left;
    begins = λ h. ((kp.begins some).0, shorter_is 0 h ∙ (kp.begins some).1, (kp.begins some).2);
    empty = λ e. absurd (omega (arith, e, popped_length path, longer));
  }
