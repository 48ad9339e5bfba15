-- A component that is complete is put in the order.
use Rattle.std.proofs.Common.{◌≡◌, refl, sym, ◌∙◌, ap, subst, ℕ, ◌+◌, ◌-◌, ◌<◌, ◌≤◌, arith, List, length, get_or, take, Bool, true, false, ◌⊎◌, inl, inr}
use Rattle.std.proofs.lemmas.List.{get_or-take, length-take-le}
use Rattle.std.proofs.lemmas.Bool.{cases_lt, cases_eq}
use Rattle.graph_order.specs.declared.graph.Graph.{Graph}
use Rattle.graph_order.specs.declared.order.Mark.{Mark}
use Rattle.graph_order.specs.declared.order.Frame.{Frame}
use Rattle.graph_order.specs.Graphs.{LeadsTo}
use Rattle.graph_order.specs.Searches.{mark, no_frame, node, next, flag, last_of, first_of, nodes, Edge, EdgeAt, Reach, Leads, Within, NoBound, KeepsStack, KeepsPath, KeepsRanks, RanksFrom}
use Rattle.graph_order.proofs.GraphLemmas.{reach_at, leads_apart, popped_length, popped_old}
use Rattle.graph_order.proofs.SearchLemmas.{unseen_stacked, unseen_ranked, stacked_ranked, stacked_same, ranked_same, bounds_low}

module _ (g : Graph) (marks marks' : List Mark) (stack : List Frame) (path bounds order order' : List ℕ) (circular circular' : List Bool) (is_circular : Bool)
    (ks : KeepsStack g marks stack bounds) (kp : KeepsPath g stack path bounds) (kr : KeepsRanks g marks order circular)
    (some : 0 < length path) (done : next stack (last_of path) ≡ first_of g (node stack (last_of path) + 1)) (begins : last_of bounds ≡ last_of path)
    (on_cycle : is_circular ≡ true → (last_of path + 1 < length stack) ⊎ Edge g (node stack (last_of path)) (node stack (last_of path)))
    (on_none : is_circular ≡ false → (length stack ≡ last_of path + 1) × (Edge g (node stack (last_of path)) (node stack (last_of path)) → ⊥))
    (ranks : RanksFrom (last_of path) is_circular stack marks marks' order order' circular circular' (length stack)) where
  abbrev bottom : ℕ
  bottom = last_of path

  abbrev stack' : List Frame
  stack' = take bottom stack

  abbrev path' : List ℕ
  path' = take (length path - 1) path

  abbrev bounds' : List ℕ
  bounds' = take (length bounds - 1) bounds

  bottom_high : bottom < length stack
  bottom_high = kp.high (length path - 1) (omega (arith, some))

  stack_length : length stack' ≡ bottom
  stack_length = length-take-le bottom stack (omega (arith, bottom_high))

  node_is : (i : ℕ) → i < bottom → node stack' i ≡ node stack i
  node_is i h = ap (λ (f : Frame). f.node) (get_or-take bottom stack i no_frame h)

  next_is : (i : ℕ) → i < bottom → next stack' i ≡ next stack i
  next_is i h = ap (λ (f : Frame). f.next) (get_or-take bottom stack i no_frame h)

  -- ---- marks

  -- a node lower on the stack is none of the component's
  lower_other : (w j : ℕ) → mark marks w ≡ Mark.Stacked j → j < bottom → (i : ℕ) → bottom ≤ i → i < length stack → node stack i ≡ w → ⊥
  lower_other w j is low i from to e = omega (arith, low, from, stacked_same (ap (λ z. mark marks z) e ∙ is) (ks.stacked i to))

  ranked_other : (w r : ℕ) → mark marks w ≡ Mark.Ranked r → (i : ℕ) → bottom ≤ i → i < length stack → node stack i ≡ w → ⊥
  ranked_other w r is i from to e = stacked_ranked (ks.stacked i to) (ap (λ z. mark marks z) e ∙ is)

  unseen_other : (w : ℕ) → mark marks w ≡ Mark.Unseen → (i : ℕ) → bottom ≤ i → i < length stack → node stack i ≡ w → ⊥
  unseen_other w is i from to e = unseen_stacked (ap (λ z. mark marks z) e ∙ is) (ks.stacked i to)

  keeps_stacked : (w j : ℕ) → mark marks w ≡ Mark.Stacked j → j < bottom → mark marks' w ≡ Mark.Stacked j
  keeps_stacked w j is low = ranks.marks_old w (lower_other w j is low) ∙ is

  pub keeps_ranked : (w r : ℕ) → mark marks w ≡ Mark.Ranked r → mark marks' w ≡ Mark.Ranked r
  keeps_ranked w r is = ranks.marks_old w (ranked_other w r is) ∙ is

  now_ranked : (w j : ℕ) → mark marks w ≡ Mark.Stacked j → bottom ≤ j → mark marks' w ≡ Mark.Ranked (length order + (j - bottom))
  now_ranked w j is high =
      let at = ks.placed w j is in
      ap (λ z. mark marks' z) (sym at.1) ∙ ranks.marks_new j high at.0

  -- what a mark of the new list was before
  data Before (w : ℕ) : Type 0 where
    unseen : mark marks w ≡ Mark.Unseen → mark marks' w ≡ Mark.Unseen → Before w
    lower : (j : ℕ) → j < bottom → mark marks w ≡ Mark.Stacked j → mark marks' w ≡ Mark.Stacked j → Before w
    member : (j : ℕ) → bottom ≤ j → j < length stack → node stack j ≡ w → mark marks' w ≡ Mark.Ranked (length order + (j - bottom)) → Before w
    ranked : (r : ℕ) → mark marks w ≡ Mark.Ranked r → mark marks' w ≡ Mark.Ranked r → Before w

  before : (w : ℕ) → Before w
  before w = go (mark marks w) refl
    where
      at : (j : ℕ) → mark marks w ≡ Mark.Stacked j → (j < bottom) ⊎ (bottom ≤ j) → Before w
      at j is (inl low) = Before.lower j low is (keeps_stacked w j is low)
      at j is (inr high) = Before.member j high (ks.placed w j is).0 (ks.placed w j is).1 (now_ranked w j is high)

      go : (m : Mark) → mark marks w ≡ m → Before w
      go Mark.Unseen is = Before.unseen is (ranks.marks_old w (unseen_other w is) ∙ is)
      go (Mark.Stacked j) is = at j is (cases_lt j bottom)
      go (Mark.Ranked r) is = Before.ranked r is (keeps_ranked w r is)

  -- ---- the stack

  placed_at : (w i : ℕ) → mark marks' w ≡ Mark.Stacked i → Before w → (i < length stack') × (node stack' i ≡ w)
  placed_at w i is (Before.unseen was new) = absurd (unseen_stacked new is)
  placed_at w i is (Before.lower j low was new) =
      let same : j ≡ i = stacked_same new is in
      let lower : i < bottom = omega (arith, low, same) in
      (omega (arith, lower, stack_length), node_is i lower ∙ (ks.placed w i (was ∙ ap (λ z. Mark.Stacked z) same)).1)
  placed_at w i is (Before.member j high to e new) = absurd (stacked_ranked is new)
  placed_at w i is (Before.ranked r was new) = absurd (stacked_ranked is new)

  lower_bound : (m : ℕ) → m < length bounds' → m < length bounds - 1
  lower_bound m h = omega (arith, h, popped_length bounds)

  bound_is : (m : ℕ) → m < length bounds' → get_or bounds' m 0 ≡ get_or bounds m 0
  bound_is m h = popped_old bounds m (lower_bound m h)

  no_bound : (i j : ℕ) → j < bottom → NoBound bounds' i j → NoBound bounds i j
  no_bound i j low none m hm from to = go (cases_lt m (length bounds - 1))
    where
      go : (m < length bounds - 1) ⊎ (length bounds - 1 ≤ m) → ⊥
      go (inl early) = let e = popped_old bounds m early in none m (omega (arith, early, popped_length bounds)) (omega (arith, e, from)) (omega (arith, e, to))
      go (inr late) = omega (arith, to, low, begins, ap (λ z. get_or bounds z 0) (let e : m ≡ length bounds - 1 = omega (arith, late, hm) in e))

  within_at : (i w : ℕ) → Within marks bounds i w → Within marks' bounds' i w
  within_at i w (inl (r, is)) = inl (r, keeps_ranked w r is)
  within_at i w (inr (j, is, above)) = go (cases_lt j bottom)
    where
      go : (j < bottom) ⊎ (bottom ≤ j) → Within marks' bounds' i w
      go (inl low) = inr (j, keeps_stacked w j is low, λ m hm le. omega (arith, bound_is m hm, above m (omega (arith, lower_bound m hm)) (omega (arith, bound_is m hm, le))))
      go (inr high) = inl (length order + (j - bottom), now_ranked w j is high)

  up : (i : ℕ) → i < length stack' → i < bottom
  up i h = omega (arith, h, stack_length)

  high_up : (i : ℕ) → i < length stack' → i < length stack
  high_up i h = omega (arith, h, stack_length, bottom_high)

  pub stack_ranked : KeepsStack g marks' stack' bounds'
  stack_ranked = record {
    size = ranks.marks ∙ ks.size;
    stacked = λ i h. ap (λ z. mark marks' z) (node_is i (up i h)) ∙ keeps_stacked (node stack i) i (ks.stacked i (high_up i h)) (up i h);
    placed = λ w i is. placed_at w i is (before w);
    below = λ i h. omega (arith, node_is i (up i h), ks.below i (high_up i h));
    forward = λ i j le h. reach_at (sym (node_is i (omega (arith, le, up j h)))) (sym (node_is j (up j h))) (ks.forward i j le (high_up j h));
    backward = λ i j le h none. reach_at (sym (node_is j (up j h))) (sym (node_is i (omega (arith, le, up j h)))) (ks.backward i j le (high_up j h) (no_bound i j (up j h) none));
    begun = λ i h. omega (arith, ap (λ z. first_of g z) (node_is i (up i h)), next_is i (up i h), ks.begun i (high_up i h));
    ended = λ i h. omega (arith, ap (λ z. first_of g (z + 1)) (node_is i (up i h)), next_is i (up i h), ks.ended i (high_up i h));
    scanned = λ i k w h e below. within_at i w (ks.scanned i k w (high_up i h) (subst (λ z. EdgeAt g z k w) (node_is i (up i h)) e) (omega (arith, next_is i (up i h), below)));
  }

  -- ---- the path

  path_up : (m : ℕ) → m < length path' → m < length path - 1
  path_up m h = omega (arith, h, popped_length path)

  path_is : (m : ℕ) → m < length path' → get_or path' m 0 ≡ get_or path m 0
  path_is m h = popped_old path m (path_up m h)

  early_on : (l : ℕ) → l < length path → get_or path l 0 < bottom → (l < length path - 1) ⊎ (length path - 1 ≤ l) → l < length path - 1
  early_on l h low (inl early) = early
  early_on l h low (inr late) = absurd (omega (arith, low, ap (λ z. get_or path z 0) (let e : l ≡ length path - 1 = omega (arith, late, h) in e)))

  finished_at : (i : ℕ) → i < bottom → ((m : ℕ) × (m < length path) × (get_or path m 0 ≡ i)) ⊎ (next stack i ≡ first_of g (node stack i + 1)) → ((m : ℕ) × (m < length path') × (get_or path' m 0 ≡ i)) ⊎ (next stack' i ≡ first_of g (node stack' i + 1))
  finished_at i low (inl (m, hm, e)) =
      let early : m < length path - 1 = early_on m hm (omega (arith, e, low)) (cases_lt m (length path - 1)) in
      inl (m, omega (arith, early, popped_length path), popped_old path m early ∙ e)
  finished_at i low (inr e) = inr (next_is i low ∙ e ∙ sym (ap (λ z. first_of g (z + 1)) (node_is i low)))

  on_path_at : (m : ℕ) → m < length bounds' → (l : ℕ) × (l < length path') × (get_or path' l 0 ≡ get_or bounds' m 0)
  on_path_at m h =
      let on = kp.bounds_on_path m (omega (arith, lower_bound m h)) in
      let early : on.0 < length path - 1 = early_on on.0 on.1 (omega (arith, on.2, begins, kp.bounds_rising m (length bounds - 1) (lower_bound m h) (omega (arith, lower_bound m h)))) (cases_lt on.0 (length path - 1)) in
      (on.0, omega (arith, early, popped_length path), popped_old path on.0 early ∙ on.2 ∙ sym (bound_is m h))

  begins_at : 0 < length path' → (1 < length bounds) ⊎ (length bounds ≤ 1) → (0 < length bounds') × (get_or path' 0 0 ≡ 0) × (get_or bounds' 0 0 ≡ 0)
  begins_at h (inl more) =
      (omega (arith, more, popped_length bounds), path_is 0 h ∙ (kp.begins some).1, popped_old bounds 0 (omega (arith, more)) ∙ (kp.begins some).2)
  begins_at h (inr one) = absurd (omega (
    arith,
    kp.rising 0 (length path - 1) (path_up 0 h) (omega (arith, some)),
    (kp.begins some).1,
    (kp.begins some).2,
    begins,
    ap (λ z. get_or bounds z 0) (let e : length bounds - 1 ≡ 0 = omega (arith, one) in e),
  ))

  pub path_ranked : KeepsPath g stack' path' bounds'
  path_ranked = record {
    finished = λ i h. finished_at i (up i h) (kp.finished i (high_up i h));
    rising = λ l m lt h. omega (arith, path_is l (omega (arith, lt, h)), path_is m h, kp.rising l m lt (omega (arith, path_up m h)));
    high = λ m h. omega (arith, path_is m h, stack_length, kp.rising m (length path - 1) (path_up m h) (omega (arith, some)));
    bounds_rising = λ l m lt h. omega (arith, bound_is l (omega (arith, lt, h)), bound_is m h, kp.bounds_rising l m lt (omega (arith, lower_bound m h)));
    bounds_on_path = on_path_at;
    begins = λ h. begins_at h (cases_lt 1 (length bounds));
    empty = λ e. stack_length ∙ ap (λ z. get_or path z 0) (let one : length path - 1 ≡ 0 = omega (arith, e, popped_length path) in one) ∙ (kp.begins some).1;
  }

  -- ---- the ranks

  -- each target of a member was looked at
  all_scanned : (i : ℕ) → bottom ≤ i → i < length stack → next stack i ≡ first_of g (node stack i + 1)
  all_scanned i from to = go (kp.finished i to) (cases_eq i bottom)
    where
      go : ((m : ℕ) × (m < length path) × (get_or path m 0 ≡ i)) ⊎ (next stack i ≡ first_of g (node stack i + 1)) → (i ≡ bottom) ⊎ (i ≡ bottom → ⊥) → next stack i ≡ first_of g (node stack i + 1)
      go (inr e) both = e
      go (inl on) (inl is) = subst (λ z. next stack z ≡ first_of g (node stack z + 1)) (sym is) done
      go (inl (m, hm, e)) (inr other) = last (cases_lt m (length path - 1))
        where
          last : (m < length path - 1) ⊎ (length path - 1 ≤ m) → next stack i ≡ first_of g (node stack i + 1)
          last (inl early) = absurd (omega (arith, from, e, kp.rising m (length path - 1) early (omega (arith, some))))
          last (inr late) = absurd (other (sym e ∙ ap (λ z. get_or path z 0) (let same : m ≡ length path - 1 = omega (arith, late, hm) in same)))

  -- a target of a member was ranked, or is a member
  target_is : (i x : ℕ) → bottom ≤ i → i < length stack → Edge g (node stack i) x → ((r : ℕ) × (mark marks x ≡ Mark.Ranked r)) ⊎ ((j : ℕ) × (mark marks x ≡ Mark.Stacked j) × (bottom ≤ j))
  target_is i x from to (k, edge) = go (ks.scanned i k x to edge (omega (arith, edge.below, all_scanned i from to)))
    where
      go : Within marks bounds i x → ((r : ℕ) × (mark marks x ≡ Mark.Ranked r)) ⊎ ((j : ℕ) × (mark marks x ≡ Mark.Stacked j) × (bottom ≤ j))
      go (inl r) = inl r
      go (inr (j, is, above)) = inr (j, is, omega (arith, begins, above (length bounds - 1) (omega (arith, (kp.begins some).0)) (omega (arith, begins, from))))

  -- the member at this place of the order
  member_at : (k : ℕ) → length order ≤ k → k < length order' → (i : ℕ) × (bottom ≤ i) × (i < length stack) × (get_or order' k 0 ≡ node stack i) × (k ≡ length order + (i - bottom))
  member_at k high h =
      let i : ℕ = bottom + (k - length order) in
      let from : bottom ≤ i = omega (arith) in
      let to : i < length stack = omega (arith, ranks.order, h, high, bottom_high) in
      let is : k ≡ length order + (i - bottom) = omega (arith, high) in
      (i, from, to, ap (λ z. get_or order' z 0) is ∙ ranks.order_new i from to, is)

  order_split : (k : ℕ) → (k < length order) ⊎ (length order ≤ k)
  order_split k = cases_lt k (length order)

  old_flag : (k : ℕ) → k < length order → flag circular' (get_or order' k 0) ≡ flag circular (get_or order k 0)
  old_flag k h = ap (λ z. flag circular' z) (ranks.order_old k h) ∙ ranks.flags_old (get_or order k 0) (ranked_other (get_or order k 0) k (kr.ranked k h))

  grown : (k : ℕ) → k < length order → k < length order'
  grown k h = omega (arith, h, ranks.order)

  ranked_at : (k : ℕ) → k < length order' → (k < length order) ⊎ (length order ≤ k) → mark marks' (get_or order' k 0) ≡ Mark.Ranked k
  ranked_at k h (inl old) = ap (λ z. mark marks' z) (ranks.order_old k old) ∙ keeps_ranked (get_or order k 0) k (kr.ranked k old)
  ranked_at k h (inr new) =
      let m = member_at k new h in
      ap (λ z. mark marks' z) m.3 ∙ ranks.marks_new m.0 m.1 m.2 ∙ ap (λ z. Mark.Ranked z) (sym m.4)

  below_at : (k : ℕ) → k < length order' → (k < length order) ⊎ (length order ≤ k) → get_or order' k 0 < nodes g
  below_at k h (inl old) = omega (arith, ranks.order_old k old, kr.below k old)
  below_at k h (inr new) = let m = member_at k new h in omega (arith, m.3, ks.below m.0 m.2)

  ordered_at : (w k : ℕ) → mark marks' w ≡ Mark.Ranked k → Before w → (k < length order') × (get_or order' k 0 ≡ w)
  ordered_at w k is (Before.unseen was new) = absurd (unseen_ranked new is)
  ordered_at w k is (Before.lower j low was new) = absurd (stacked_ranked new is)
  ordered_at w k is (Before.member j high to e new) =
      let same : length order + (j - bottom) ≡ k = ranked_same new is in
      (omega (arith, same, high, to, ranks.order), ap (λ z. get_or order' z 0) (sym same) ∙ ranks.order_new j high to ∙ e)
  ordered_at w k is (Before.ranked r was new) =
      let old = kr.ordered w k (was ∙ ap (λ z. Mark.Ranked z) (ranked_same new is)) in
      (grown k old.0, ranks.order_old k old.0 ∙ old.1)

  closed_at : (k x : ℕ) → k < length order' → Edge g (get_or order' k 0) x → (k < length order) ⊎ (length order ≤ k) → (r : ℕ) × (mark marks' x ≡ Mark.Ranked r)
  closed_at k x h edge (inl old) =
      let c = kr.closed k x old (subst (λ z. Edge g z x) (ranks.order_old k old) edge) in
      (c.0, keeps_ranked x c.0 c.1)
  closed_at k x h edge (inr new) = go (target_is m.0 x m.1 m.2 (subst (λ z. Edge g z x) m.3 edge))
    where
      m : (i : ℕ) × (bottom ≤ i) × (i < length stack) × (get_or order' k 0 ≡ node stack i) × (k ≡ length order + (i - bottom))
      m = member_at k new h

      go : ((r : ℕ) × (mark marks x ≡ Mark.Ranked r)) ⊎ ((j : ℕ) × (mark marks x ≡ Mark.Stacked j) × (bottom ≤ j)) → (r : ℕ) × (mark marks' x ≡ Mark.Ranked r)
      go (inl (r, is)) = (r, keeps_ranked x r is)
      go (inr (j, is, high)) = (length order + (j - bottom), now_ranked x j is high)

  -- a target of an old member stands before the new ones
  old_target : (j x : ℕ) → j < length order → Edge g (get_or order' j 0) x → (r : ℕ) × (r < length order) × (mark marks' x ≡ Mark.Ranked r)
  old_target j x h edge =
      let c = kr.closed j x h (subst (λ z. Edge g z x) (ranks.order_old j h) edge) in
      (c.0, (kr.ordered x c.0 c.1).0, keeps_ranked x c.0 c.1)

  earlier_at : (k : ℕ) → k < length order' → flag circular' (get_or order' k 0) ≡ false → (j x : ℕ) → j ≤ k → Edge g (get_or order' j 0) x
      → (k < length order) ⊎ (length order ≤ k) → (j < length order) ⊎ (length order ≤ j) → (r : ℕ) × (r < k) × (mark marks' x ≡ Mark.Ranked r)
  earlier_at k h off j x le edge (inl old) both =
      let low : j < length order = omega (arith, le, old) in
      let c = kr.earlier k old (sym (old_flag k old) ∙ off) j x le (subst (λ z. Edge g z x) (ranks.order_old j low) edge) in
      (c.0, c.1, keeps_ranked x c.0 c.2)
  earlier_at k h off j x le edge (inr new) (inl old) = let c = old_target j x old edge in (c.0, omega (arith, c.1, new), c.2)
  earlier_at k h off j x le edge (inr new) (inr late) = go (target_is bottom x (omega (arith)) bottom_high from_bottom)
    where
      m : (i : ℕ) × (bottom ≤ i) × (i < length stack) × (get_or order' k 0 ≡ node stack i) × (k ≡ length order + (i - bottom))
      m = member_at k new h

      single : (length stack ≡ bottom + 1) × (Edge g (node stack bottom) (node stack bottom) → ⊥)
      single = on_none (sym (ranks.flags_new m.0 m.1 m.2) ∙ ap (λ z. flag circular' z) (sym m.3) ∙ off)

      k_is : k ≡ length order
      k_is = omega (arith, m.4, m.1, m.2, single.0)

      j_is : get_or order' j 0 ≡ node stack bottom
      j_is = ap (λ z. get_or order' z 0) (let same : j ≡ length order + (bottom - bottom) = omega (arith, le, late, k_is) in same) ∙ ranks.order_new bottom (omega (arith)) bottom_high

      from_bottom : Edge g (node stack bottom) x
      from_bottom = subst (λ z. Edge g z x) j_is edge

      go : ((r : ℕ) × (mark marks x ≡ Mark.Ranked r)) ⊎ ((i : ℕ) × (mark marks x ≡ Mark.Stacked i) × (bottom ≤ i)) → (r : ℕ) × (r < k) × (mark marks' x ≡ Mark.Ranked r)
      go (inl (r, is)) = (r, omega (arith, (kr.ordered x r is).0, new), keeps_ranked x r is)
      go (inr (i, is, high)) =
          let at = ks.placed x i is in
          absurd (single.1 (subst (λ z. Edge g (node stack bottom) z) (sym at.1 ∙ ap (λ z. node stack z) (let same : i ≡ bottom = omega (arith, at.0, single.0, high) in same)) from_bottom))

  -- two members lead to one another
  mutual_reach : (i j : ℕ) → bottom ≤ i → bottom ≤ j → i < length stack → j < length stack → (i < j) ⊎ (j ≤ i) → Reach g (node stack i) (node stack j)
  mutual_reach i j from from' to to' (inl lt) = ks.forward i j (omega (arith, lt)) to'
  mutual_reach i j from from' to to' (inr le) = ks.backward j i le to (λ m hm low high. omega (arith, low, from', bounds_low g stack path bounds kp m hm))

  reach_member : (i j : ℕ) → bottom ≤ i → bottom ≤ j → i < length stack → j < length stack → (i ≡ j → ⊥) → Leads g (node stack i) (node stack i)
  reach_member i j from from' to to' apart = leads_apart (mutual_reach i j from from' to to' (cases_lt i j)) (mutual_reach j i from' from to' to (cases_lt j i))
      (λ e. apart (stacked_same (ks.stacked i to) (ap (λ z. mark marks z) e ∙ ks.stacked j to')))

  cycle_at : (i : ℕ) → bottom ≤ i → i < length stack → is_circular ≡ true → (bottom + 1 < length stack) ⊎ (length stack ≤ bottom + 1) → (i ≡ bottom) ⊎ (i ≡ bottom → ⊥) → Leads g (node stack i) (node stack i)
  cycle_at i from to turns (inl more) (inl is) = reach_member i (bottom + 1) from (omega (arith)) to more (λ e. omega (arith, e, is))
  cycle_at i from to turns (inl more) (inr other) = reach_member i bottom from (omega (arith)) to bottom_high other
  cycle_at i from to turns (inr one) (inr other) = absurd (other (omega (arith, from, to, one)))
  cycle_at i from to turns (inr one) (inl is) = go (on_cycle turns)
    where
      go : (bottom + 1 < length stack) ⊎ Edge g (node stack bottom) (node stack bottom) → Leads g (node stack i) (node stack i)
      go (inl more) = absurd (omega (arith, one, more))
      go (inr edge) = subst (λ z. Leads g (node stack z) (node stack z)) (sym is) (LeadsTo.one edge)

  on_cycle_at : (k : ℕ) → k < length order' → flag circular' (get_or order' k 0) ≡ true → (k < length order) ⊎ (length order ≤ k) → Leads g (get_or order' k 0) (get_or order' k 0)
  on_cycle_at k h turns (inl old) = subst (λ z. Leads g z z) (sym (ranks.order_old k old)) (kr.on_cycle k old (sym (old_flag k old) ∙ turns))
  on_cycle_at k h turns (inr new) =
      let m = member_at k new h in
      subst (λ z. Leads g z z) (sym m.3) (cycle_at m.0 m.1 m.2 (sym (ranks.flags_new m.0 m.1 m.2) ∙ ap (λ z. flag circular' z) (sym m.3) ∙ turns) (cases_lt (bottom + 1) (length stack)) (cases_eq m.0 bottom))

  pub ranks_ranked : KeepsRanks g marks' order' circular'
  ranks_ranked = record {
    flags = ranks.flags ∙ kr.flags;
    ranked = λ k h. ranked_at k h (order_split k);
    below = λ k h. below_at k h (order_split k);
    ordered = λ w k is. ordered_at w k is (before w);
    closed = λ k x h edge. closed_at k x h edge (order_split k);
    earlier = λ k h off j x le edge. earlier_at k h off j x le edge (order_split k) (order_split j);
    on_cycle = λ k h turns. on_cycle_at k h turns (order_split k);
  }
