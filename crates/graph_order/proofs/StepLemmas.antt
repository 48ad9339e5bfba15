-- The steps of the search, over the search as a whole.
use Rattle.std.proofs.Common.{◌≡◌, refl, sym, ◌∙◌, ap, subst, ℕ, ◌+◌, ◌-◌, ◌*◌, ◌<◌, ◌≤◌, arith, List, [], ◌∷◌, ◌++◌, length, get_or, set, take, Bool, true, false, ◌⊎◌, inl, inr}
use Rattle.std.specs.Prelude.{sum_by, replicate}
use Rattle.std.proofs.lemmas.List.{length_push, get_or-set_same, get_or-set_other, length-set, get_or-replicate, length-replicate, get_or_past, get_or_default}
use Rattle.std.proofs.lemmas.List.Sums.{sum_by-set, sum_by_push, sum_by-take-le}
use Rattle.std.proofs.lemmas.Bool.{cases_lt, cases_eq}
use Rattle.graph_order.specs.declared.graph.Graph.{Graph}
use Rattle.graph_order.specs.declared.order.Mark.{Mark}
use Rattle.graph_order.specs.declared.order.Frame.{Frame}
use Rattle.graph_order.specs.declared.order.Search.{Search}
use Rattle.graph_order.specs.Graphs.{IsGraph, LeadsTo, Orders}
use Rattle.graph_order.specs.Searches.{mark, no_frame, node, next, flag, last_of, first_of, nodes, Edge, EdgeAt, Reach, Leads, KeepsStack, KeepsPath, KeepsRanks, Keeps, is_unseen, KeepsSeen, targets_left, unseen_count, work_left, Enters, RanksFrom, LooksAt, Steps}
use Rattle.graph_order.proofs.GraphLemmas.{reach_trans, reach_edge, push_old, push_new, popped_length, sum_same}
use Rattle.graph_order.proofs.SearchLemmas.{unseen_stacked, unseen_ranked, stacked_ranked, stacked_same, ranked_same, top_reached, stack_entered, path_entered, ranks_entered}
use Rattle.graph_order.proofs.AdvanceLemmas.{stack_advanced, path_advanced, path_left}
use Rattle.graph_order.proofs.ComponentLemmas.{stack_ranked, path_ranked, ranks_ranked}

-- ---- a search from its parts

keeps_at : (g : Graph) (s : Search) (m : List Mark) (f : List Frame) (p b o : List ℕ) (c : List Bool)
    → s.marks.items ≡ m → s.stack.items ≡ f → s.path.items ≡ p → s.bounds.items ≡ b → s.order.items ≡ o → s.circular.items ≡ c
    → KeepsStack g m f b → KeepsPath g f p b → KeepsRanks g m o c → Keeps g s
keeps_at g s m f p b o c em ef ep eb eo ec ks kp kr = record {
  stack = subst (λ z. KeepsStack g z s.stack.items s.bounds.items) (sym em) (subst (λ z. KeepsStack g m z s.bounds.items) (sym ef) (subst (λ z. KeepsStack g m f z) (sym eb) ks));
  path = subst (λ z. KeepsPath g z s.path.items s.bounds.items) (sym ef) (subst (λ z. KeepsPath g f z s.bounds.items) (sym ep) (subst (λ z. KeepsPath g f p z) (sym eb) kp));
  ranks = subst (λ z. KeepsRanks g z s.order.items s.circular.items) (sym em) (subst (λ z. KeepsRanks g m z s.circular.items) (sym eo) (subst (λ z. KeepsRanks g m o z) (sym ec) kr));
}

-- ---- marks and the count of the unseen

seen_count : (m : Mark) → is_unseen m ≡ false → unseen_count m ≡ 0
seen_count Mark.Unseen e = cc
seen_count (Mark.Stacked i) e = refl
seen_count (Mark.Ranked r) e = refl

is_seen : (m n : Mark) → m ≡ n → is_unseen n ≡ false → is_unseen m ≡ false
is_seen m n e h = ap (λ z. is_unseen z) e ∙ h

-- a mark that is set to a place of the stack or of the order
set_seen : (marks : List Mark) (v : ℕ) (m : Mark) → is_unseen m ≡ false → (w : ℕ) → is_unseen (mark marks w) ≡ false → is_unseen (mark (set marks v m) w) ≡ false
set_seen marks v m seen w h = go (cases_eq w v) (cases_lt v (length marks))
  where
    go : (w ≡ v) ⊎ (w ≡ v → ⊥) → (v < length marks) ⊎ (length marks ≤ v) → is_unseen (mark (set marks v m) w) ≡ false
    go (inl e) (inl within) = ap (λ z. is_unseen (mark (set marks v m) z)) e ∙ ap (λ z. is_unseen z) (get_or-set_same marks v m Mark.Unseen within) ∙ seen
    go (inl e) (inr past) = absurd (not_false (sym h ∙ ap (λ z. is_unseen z) (get_or_past marks w Mark.Unseen (omega (arith, e, past)))))
      where
        not_false : false ≡ true → ⊥
        not_false q = cc
    go (inr other) both = ap (λ z. is_unseen z) (get_or-set_other marks v w m Mark.Unseen other) ∙ h

-- ---- a node comes on the stack

last_edge : (g : Graph) → IsGraph g.firsts.items g.targets.items → (v : ℕ) → v < nodes g → (first_of g v ≤ first_of g (v + 1)) × (first_of g (v + 1) ≤ length g.targets.items)
last_edge g good v h = (good.rising v (omega (arith, h, good.not_empty)), good.within (v + 1) (omega (arith, h, good.not_empty)))

module _ (g : Graph) (good : IsGraph g.firsts.items g.targets.items) (old new : Search) (v : ℕ) (k : Keeps g old) (enters : Enters v (first_of g v) old new)
    (unseen : mark old.marks.items v ≡ Mark.Unseen) (is_node : v < nodes g)
    (reached : (i : ℕ) → i < length old.stack.items → Reach g (node old.stack.items i) v) where
  pub entered_keeps : Keeps g new
  entered_keeps = keeps_at g new _ _ _ _ _ _ enters.marks enters.stack enters.path enters.bounds enters.order enters.circular
      (stack_entered g old.marks.items old.stack.items old.path.items old.bounds.items v k.stack k.path unseen is_node (last_edge g good v is_node).0 reached)
      (path_entered g old.marks.items old.stack.items old.path.items old.bounds.items v k.stack k.path unseen is_node (last_edge g good v is_node).0 reached)
      (ranks_entered g old.marks.items old.stack.items old.path.items old.bounds.items v k.stack k.path unseen is_node (last_edge g good v is_node).0 reached old.order.items old.circular.items k.ranks)

  pub entered_seen : KeepsSeen old new
  entered_seen w h = is_seen (mark new.marks.items w) (mark (set old.marks.items v (Mark.Stacked (length old.stack.items))) w) (ap (λ z. mark z w) enters.marks)
      (set_seen old.marks.items v (Mark.Stacked (length old.stack.items)) refl w h)

  pub entered_now : is_unseen (mark new.marks.items v) ≡ false
  entered_now = ap (λ z. is_unseen (mark z v)) enters.marks
      ∙ ap (λ z. is_unseen z) (get_or-set_same old.marks.items v (Mark.Stacked (length old.stack.items)) Mark.Unseen (omega (arith, k.stack.size, is_node)))

  entered_count : sum_by unseen_count old.marks.items ≡ sum_by unseen_count new.marks.items + 1
  entered_count =
      let s = sum_by-set unseen_count old.marks.items v (Mark.Stacked (length old.stack.items)) Mark.Unseen (omega (arith, k.stack.size, is_node)) in
      let one : unseen_count (mark old.marks.items v) ≡ 1 = ap (λ z. unseen_count z) unseen in
      let e = ap (λ z. sum_by unseen_count z) enters.marks in
      omega (arith, s, one, e)

  entered_frames : sum_by (targets_left g) new.stack.items ≡ sum_by (targets_left g) old.stack.items + (first_of g (v + 1) - first_of g v)
  entered_frames = ap (λ z. sum_by (targets_left g) z) enters.stack ∙ sum_by_push (targets_left g) old.stack.items (record { node = v; next = first_of g v })

  entered_path : length new.path.items ≡ length old.path.items + 1
  entered_path = ap (λ z. length z) enters.path ∙ length_push old.path.items (length old.stack.items)

  pub entered_work : work_left g new ≤ work_left g old
  entered_work =
      let product = ap (λ z. z * (length g.targets.items + 2)) entered_count in
      omega (arith, product, entered_frames, entered_path, (last_edge g good v is_node).0, (last_edge g good v is_node).1)

-- ---- looking at a target

module _ (g : Graph) (good : IsGraph g.firsts.items g.targets.items) (old : Search) (w : ℕ) (k : Keeps g old) (some : 0 < length old.path.items)
    (edge : EdgeAt g (node old.stack.items (last_of old.path.items)) (next old.stack.items (last_of old.path.items)) w) where
  abbrev top : ℕ
  top = last_of old.path.items

  top_high : top < length old.stack.items
  top_high = k.path.high (length old.path.items - 1) (omega (arith, some))

  pub target_is_node : w < nodes g
  target_is_node = omega (
    arith,
    good.targets_are_nodes (next old.stack.items top)
        (omega (arith, edge.below, (last_edge g good (node old.stack.items top) (k.stack.below top top_high)).1)),
    edge.target,
  )

  pub target_reached : (i : ℕ) → i < length old.stack.items → Reach g (node old.stack.items i) w
  target_reached i h = reach_trans (top_reached g old.marks.items old.stack.items old.path.items old.bounds.items k.stack k.path some i h) (reach_edge (next old.stack.items top, edge))

  pub looked_entered : (new : Search) → Enters w (first_of g w) old new → mark old.marks.items w ≡ Mark.Unseen → LooksAt g w old new
  looked_entered new enters unseen = record {
    keeps = entered_keeps g good old new w k enters unseen target_is_node target_reached;
    within = inr (
      length old.stack.items,
      ap (λ z. mark z w) enters.marks ∙ get_or-set_same old.marks.items w (Mark.Stacked (length old.stack.items)) Mark.Unseen (omega (arith, k.stack.size, target_is_node)),
      λ m hm le. omega (arith, le, top_high),
    );
    frames = λ i h. ap (λ z. get_or z i no_frame) enters.stack ∙ push_old old.stack.items (record { node = w; next = first_of g w }) i no_frame h;
    grown = omega (arith, ap (λ z. length z) enters.stack ∙ length_push old.stack.items (record { node = w; next = first_of g w }));
    path = λ m h. (
      omega (arith, h, ap (λ z. length z) enters.path ∙ length_push old.path.items (length old.stack.items)),
      ap (λ z. get_or z m 0) enters.path ∙ push_old old.path.items (length old.stack.items) m 0 h,
    );
    seen = entered_seen g good old new w k enters unseen target_is_node target_reached;
    work = entered_work g good old new w k enters unseen target_is_node target_reached;
  }

  pub looked_ranked : (r : ℕ) → mark old.marks.items w ≡ Mark.Ranked r → LooksAt g w old old
  looked_ranked r is = record {
    keeps = k;
    within = inl (r, is);
    frames = λ i h. refl;
    grown = omega arith;
    path = λ m h. (h, refl);
    seen = λ x h. h;
    work = omega arith;
  }

  -- every bound is at most the last one
  low_bound : (stack : List Frame) (path bounds : List ℕ) → KeepsPath g stack path bounds → (m : ℕ) → m < length bounds → get_or bounds m 0 ≤ last_of bounds
  low_bound stack path bounds kp m h = go (cases_lt m (length bounds - 1))
    where
      go : (m < length bounds - 1) ⊎ (length bounds - 1 ≤ m) → get_or bounds m 0 ≤ last_of bounds
      go (inl early) = omega (arith, kp.bounds_rising m (length bounds - 1) early (omega (arith, h)))
      go (inr late) = omega (arith, ap (λ z. get_or bounds z 0) (let e : m ≡ length bounds - 1 = omega (arith, late, h) in e))

  pub looked_joined : (new : Search) (place : ℕ) → mark old.marks.items w ≡ Mark.Stacked place
      → last_of new.bounds.items ≤ place → new ≡ record old { bounds = new.bounds }
      → KeepsStack g new.marks.items new.stack.items new.bounds.items × KeepsPath g new.stack.items new.path.items new.bounds.items → LooksAt g w old new
  looked_joined new place is joined others joins =
      let both = subst (λ (x : Search). KeepsStack g x.marks.items x.stack.items x.bounds.items × KeepsPath g x.stack.items x.path.items x.bounds.items) others joins in
      subst (λ z. LooksAt g w old z) (sym others) (record {
        keeps = record { stack = both.0; path = both.1; ranks = k.ranks };
        within = inr (place, is, λ m hm le. omega (arith, joined, low_bound old.stack.items old.path.items new.bounds.items both.1 m hm));
        frames = λ i h. refl;
        grown = omega arith;
        path = λ m h. (h, refl);
        seen = λ x h. h;
        work = omega arith;
      })

  pub place_reached : (place : ℕ) → mark old.marks.items w ≡ Mark.Stacked place → Reach g (node old.stack.items top) (node old.stack.items place)
  place_reached place is = subst (λ z. Reach g (node old.stack.items top) z) (sym (k.stack.placed w place is).1) (reach_edge (next old.stack.items top, edge))

  -- ---- one target more

  pub followed : (mid new : Search) → LooksAt g w old mid
      → new.marks.items ≡ mid.marks.items → new.stack.items ≡ set mid.stack.items top (record { node = node old.stack.items top; next = next old.stack.items top + 1 })
      → new.path.items ≡ mid.path.items → new.bounds.items ≡ mid.bounds.items → new.order.items ≡ mid.order.items → new.circular.items ≡ mid.circular.items
      → Steps g old new
  followed mid new looks em ef ep eb eo ec = record {
    keeps = keeps_at g new _ _ _ _ _ _ em stack_is ep eb eo ec
        (stack_advanced g mid.marks.items mid.stack.items mid.path.items mid.bounds.items top w looks.keeps.stack looks.keeps.path here edge' looks.within on_path)
        (path_advanced g mid.marks.items mid.stack.items mid.path.items mid.bounds.items top w looks.keeps.stack looks.keeps.path here edge' looks.within on_path)
        looks.keeps.ranks;
    seen = λ x h. ap (λ z. is_unseen (mark z x)) em ∙ looks.seen x h;
    work = less;
  }
    where
      here : top < length mid.stack.items
      here = omega (arith, top_high, looks.grown)

      same_node : node mid.stack.items top ≡ node old.stack.items top
      same_node = ap (λ (f : Frame). f.node) (looks.frames top top_high)

      same_next : next mid.stack.items top ≡ next old.stack.items top
      same_next = ap (λ (f : Frame). f.next) (looks.frames top top_high)

      edge' : EdgeAt g (node mid.stack.items top) (next mid.stack.items top) w
      edge' = subst (λ z. EdgeAt g z (next mid.stack.items top) w) (sym same_node) (subst (λ z. EdgeAt g (node old.stack.items top) z w) (sym same_next) edge)

      on_path : (m : ℕ) × (m < length mid.path.items) × (get_or mid.path.items m 0 ≡ top)
      on_path = let p = looks.path (length old.path.items - 1) (omega (arith, some)) in (length old.path.items - 1, p.0, p.1)

      same_frame : (a b c d : ℕ) → a ≡ b → c ≡ d → set mid.stack.items top (record { node = a; next = c + 1 }) ≡ set mid.stack.items top (record { node = b; next = d + 1 })
      same_frame a b c d p q = ap (λ z. set mid.stack.items top (record { node = z; next = c + 1 })) p ∙ ap (λ z. set mid.stack.items top (record { node = b; next = z + 1 })) q

      stack_is : new.stack.items ≡ set mid.stack.items top (record { node = node mid.stack.items top; next = next mid.stack.items top + 1 })
      stack_is = ef ∙ same_frame (node old.stack.items top) (node mid.stack.items top) (next old.stack.items top) (next mid.stack.items top) (sym same_node) (sym same_next)

      less : work_left g new < work_left g old
      less =
          let s = sum_by-set (targets_left g) mid.stack.items top (record { node = node mid.stack.items top; next = next mid.stack.items top + 1 }) no_frame here in
          let e = ap (λ z. sum_by (targets_left g) z) stack_is in
          let c = ap (λ z. sum_by unseen_count z * (length g.targets.items + 2)) em in
          omega (arith, s, e, c, ap (λ z. length z) ep, looks.work, edge'.below)

-- ---- a node is left

-- whether a node is one of those on the stack from a place on
data Member (stack : List Frame) (bottom x : ℕ) : Type 0 where
  member : (i : ℕ) → bottom ≤ i → i < length stack → node stack i ≡ x → Member stack bottom x
  other : ((i : ℕ) → bottom ≤ i → i < length stack → node stack i ≡ x → ⊥) → Member stack bottom x

module _ (g : Graph) (old new : Search) (k : Keeps g old) (some : 0 < length old.path.items)
    (done : next old.stack.items (last_of old.path.items) ≡ first_of g (node old.stack.items (last_of old.path.items) + 1)) where
  pub left_inside : last_of old.bounds.items < last_of old.path.items
      → new.marks.items ≡ old.marks.items → new.stack.items ≡ old.stack.items → new.path.items ≡ take (length old.path.items - 1) old.path.items
      → new.bounds.items ≡ old.bounds.items → new.order.items ≡ old.order.items → new.circular.items ≡ old.circular.items → Steps g old new
  left_inside inside em ef ep eb eo ec = record {
    keeps = keeps_at g new _ _ _ _ _ _ em ef ep eb eo ec k.stack (path_left g old.stack.items old.path.items old.bounds.items k.path some done inside) k.ranks;
    seen = λ x h. ap (λ z. is_unseen (mark z x)) em ∙ h;
    work = omega (arith, ap (λ z. sum_by unseen_count z * (length g.targets.items + 2)) em, ap (λ z. sum_by (targets_left g) z) ef, ap (λ z. length z) ep ∙ popped_length old.path.items, some);
  }

  -- with its component
  pub left_component : (is_circular : Bool) → last_of old.bounds.items ≡ last_of old.path.items
      → (is_circular ≡ true → (last_of old.path.items + 1 < length old.stack.items) ⊎ Edge g (node old.stack.items (last_of old.path.items)) (node old.stack.items (last_of old.path.items)))
      → (is_circular ≡ false → (length old.stack.items ≡ last_of old.path.items + 1) × (Edge g (node old.stack.items (last_of old.path.items)) (node old.stack.items (last_of old.path.items)) → ⊥))
      → RanksFrom (last_of old.path.items) is_circular old.stack.items old.marks.items new.marks.items old.order.items new.order.items old.circular.items new.circular.items (length old.stack.items)
      → new.stack.items ≡ take (last_of old.path.items) old.stack.items → new.path.items ≡ take (length old.path.items - 1) old.path.items
      → new.bounds.items ≡ take (length old.bounds.items - 1) old.bounds.items → Steps g old new
  left_component is_circular begins on_cycle on_none ranks ef ep eb = record {
    keeps = keeps_at g new new.marks.items _ _ _ new.order.items new.circular.items refl ef ep eb refl refl
        (stack_ranked g old.marks.items new.marks.items old.stack.items old.path.items old.bounds.items old.order.items new.order.items old.circular.items new.circular.items is_circular k.stack k.path k.ranks some done begins on_cycle on_none ranks)
        (path_ranked g old.marks.items new.marks.items old.stack.items old.path.items old.bounds.items old.order.items new.order.items old.circular.items new.circular.items is_circular k.stack k.path k.ranks some done begins on_cycle on_none ranks)
        (ranks_ranked g old.marks.items new.marks.items old.stack.items old.path.items old.bounds.items old.order.items new.order.items old.circular.items new.circular.items is_circular k.stack k.path k.ranks some done begins on_cycle on_none ranks);
    seen = λ x h. same_seen x ∙ h;
    work = less;
  }
    where
      bottom : ℕ
      bottom = last_of old.path.items

      member_or_not : (x : ℕ) → Member old.stack.items bottom x
      member_or_not x = go (mark old.marks.items x) refl
        where
          at : (j : ℕ) → mark old.marks.items x ≡ Mark.Stacked j → (j < bottom) ⊎ (bottom ≤ j) → Member old.stack.items bottom x
          at j is (inl low) = Member.other (λ i from to e. omega (arith, low, from, stacked_same (ap (λ z. mark old.marks.items z) e ∙ is) (k.stack.stacked i to)))
          at j is (inr high) = Member.member j high (k.stack.placed x j is).0 (k.stack.placed x j is).1

          go : (m : Mark) → mark old.marks.items x ≡ m → Member old.stack.items bottom x
          go Mark.Unseen is = Member.other (λ i from to e. unseen_stacked (ap (λ z. mark old.marks.items z) e ∙ is) (k.stack.stacked i to))
          go (Mark.Ranked r) is = Member.other (λ i from to e. stacked_ranked (k.stack.stacked i to) (ap (λ z. mark old.marks.items z) e ∙ is))
          go (Mark.Stacked j) is = at j is (cases_lt j bottom)

      seen_at : (x : ℕ) → Member old.stack.items bottom x → is_unseen (mark new.marks.items x) ≡ is_unseen (mark old.marks.items x)
      seen_at x (Member.member i from to e) =
          ap (λ z. is_unseen (mark new.marks.items z)) (sym e) ∙ ap (λ z. is_unseen z) (ranks.marks_new i from to)
          ∙ sym (ap (λ z. is_unseen (mark old.marks.items z)) (sym e) ∙ ap (λ z. is_unseen z) (k.stack.stacked i to))
      seen_at x (Member.other never) = ap (λ z. is_unseen z) (ranks.marks_old x never)

      same_seen : (x : ℕ) → is_unseen (mark new.marks.items x) ≡ is_unseen (mark old.marks.items x)
      same_seen x = seen_at x (member_or_not x)

      count_at : (x : ℕ) → Member old.stack.items bottom x → unseen_count (mark new.marks.items x) ≡ unseen_count (mark old.marks.items x)
      count_at x (Member.member i from to e) =
          ap (λ z. unseen_count (mark new.marks.items z)) (sym e) ∙ ap (λ z. unseen_count z) (ranks.marks_new i from to)
          ∙ sym (ap (λ z. unseen_count (mark old.marks.items z)) (sym e) ∙ ap (λ z. unseen_count z) (k.stack.stacked i to))
      count_at x (Member.other never) = ap (λ z. unseen_count z) (ranks.marks_old x never)

      same_count : sum_by unseen_count new.marks.items ≡ sum_by unseen_count old.marks.items
      same_count = sum_same unseen_count Mark.Unseen new.marks.items old.marks.items ranks.marks (λ x h. count_at x (member_or_not x))

      less : work_left g new < work_left g old
      less = omega (
        arith,
        ap (λ z. z * (length g.targets.items + 2)) same_count,
        ap (λ z. sum_by (targets_left g) z) ef,
        sum_by-take-le (targets_left g) old.stack.items bottom,
        ap (λ z. length z) ep ∙ popped_length old.path.items,
        some,
      )

-- ---- the members of a component, one by one

pub ranks_none : (bottom : ℕ) (circular : Bool) (stack : List Frame) (marks : List Mark) (order : List ℕ) (flags : List Bool) → RanksFrom bottom circular stack marks marks order order flags flags bottom
ranks_none bottom circular stack marks order flags = record {
  marks = refl;
  flags = refl;
  order = omega arith;
  order_old = λ k h. refl;
  order_new = λ i from to. absurd (omega (arith, from, to));
  marks_new = λ i from to. absurd (omega (arith, from, to));
  marks_old = λ w never. refl;
  flags_new = λ i from to. absurd (omega (arith, from, to));
  flags_old = λ w never. refl;
}

module _ (bottom i : ℕ) (circular : Bool) (stack : List Frame) (marks marks' : List Mark) (order order' : List ℕ) (flags flags' : List Bool)
    (r : RanksFrom bottom circular stack marks marks' order order' flags flags' i) (from : bottom ≤ i) (to : i < length stack)
    (marked : node stack i < length marks) (flagged : node stack i < length flags)
    (distinct : (j l : ℕ) → j < length stack → l < length stack → node stack j ≡ node stack l → j ≡ l) where
  abbrev v : ℕ
  v = node stack i

  abbrev marks'' : List Mark
  marks'' = set marks' v (Mark.Ranked (length order'))

  abbrev order'' : List ℕ
  order'' = order' ++ v ∷ []

  abbrev flags'' : List Bool
  flags'' = set flags' v circular

  order_at : (j : ℕ) → bottom ≤ j → (j < i) ⊎ (i ≤ j) → j < i + 1 → get_or order'' (length order + (j - bottom)) 0 ≡ node stack j
  order_at j low (inl lt) up = push_old order' v (length order + (j - bottom)) 0 (omega (arith, lt, low, from, r.order)) ∙ r.order_new j low lt
  order_at j low (inr le) up =
      let same : j ≡ i = omega (arith, le, up) in
      ap (λ z. get_or order'' z 0) (let e : length order + (j - bottom) ≡ length order' = omega (arith, same, r.order) in e) ∙ push_new order' v 0 ∙ ap (λ z. node stack z) (sym same)

  marks_at : (j : ℕ) → bottom ≤ j → (j < i) ⊎ (i ≤ j) → j < i + 1 → mark marks'' (node stack j) ≡ Mark.Ranked (length order + (j - bottom))
  marks_at j low (inl lt) up = get_or-set_other marks' v (node stack j) (Mark.Ranked (length order')) Mark.Unseen (λ e. omega (arith, lt, distinct j i (omega (arith, lt, to)) to e)) ∙ r.marks_new j low lt
  marks_at j low (inr le) up =
      let same : j ≡ i = omega (arith, le, up) in
      ap (λ z. mark marks'' (node stack z)) same ∙ get_or-set_same marks' v (Mark.Ranked (length order')) Mark.Unseen (omega (arith, marked, r.marks))
      ∙ ap (λ z. Mark.Ranked z) (let e : length order' ≡ length order + (j - bottom) = omega (arith, same, r.order) in e)

  flags_at : (j : ℕ) → bottom ≤ j → (j < i) ⊎ (i ≤ j) → j < i + 1 → flag flags'' (node stack j) ≡ circular
  flags_at j low (inl lt) up = get_or-set_other flags' v (node stack j) circular false (λ e. omega (arith, lt, distinct j i (omega (arith, lt, to)) to e)) ∙ r.flags_new j low lt
  flags_at j low (inr le) up =
      let same : j ≡ i = omega (arith, le, up) in
      ap (λ z. flag flags'' (node stack z)) same ∙ get_or-set_same flags' v circular false (omega (arith, flagged, r.flags))

  pub ranks_one : RanksFrom bottom circular stack marks marks'' order order'' flags flags'' (i + 1)
  ranks_one = record {
    marks = length-set marks' v (Mark.Ranked (length order')) ∙ r.marks;
    flags = length-set flags' v circular ∙ r.flags;
    order = omega (arith, length_push order' v, r.order, from);
    order_old = λ k h. push_old order' v k 0 (omega (arith, h, r.order)) ∙ r.order_old k h;
    order_new = λ j low up. order_at j low (cases_lt j i) up;
    marks_new = λ j low up. marks_at j low (cases_lt j i) up;
    marks_old = λ w never. get_or-set_other marks' v w (Mark.Ranked (length order')) Mark.Unseen (λ e. never i from (omega arith) (sym e)) ∙ r.marks_old w (λ j low up e. never j low (omega (arith, up)) e);
    flags_new = λ j low up. flags_at j low (cases_lt j i) up;
    flags_old = λ w never. get_or-set_other flags' v w circular false (λ e. never i from (omega arith) (sym e)) ∙ r.flags_old w (λ j low up e. never j low (omega (arith, up)) e);
  }

-- ---- the beginning and the end

unseen_all : (n v : ℕ) → mark (replicate n Mark.Unseen) v ≡ Mark.Unseen
unseen_all n v = go (cases_lt v n)
  where
    go : (v < n) ⊎ (n ≤ v) → mark (replicate n Mark.Unseen) v ≡ Mark.Unseen
    go (inl h) = get_or-replicate n v Mark.Unseen Mark.Unseen h
    go (inr h) = get_or_past (replicate n Mark.Unseen) v Mark.Unseen (omega (arith, h, length-replicate n Mark.Unseen))

pub begun_keeps : (g : Graph) (s : Search) → s.marks.items ≡ replicate (nodes g) Mark.Unseen → s.circular.items ≡ replicate (nodes g) false
    → s.stack.items ≡ [] → s.path.items ≡ [] → s.bounds.items ≡ [] → s.order.items ≡ [] → Keeps g s
begun_keeps g s em ec ef ep eb eo = keeps_at g s _ _ _ _ _ _ em ef ep eb eo ec
    (record {
      size = length-replicate (nodes g) Mark.Unseen;
      stacked = λ i h. absurd (omega (arith, h));
      placed = λ w i is. absurd (unseen_stacked (unseen_all (nodes g) w) is);
      below = λ i h. absurd (omega (arith, h));
      forward = λ i j le h. absurd (omega (arith, h));
      backward = λ i j le h none. absurd (omega (arith, h));
      begun = λ i h. absurd (omega (arith, h));
      ended = λ i h. absurd (omega (arith, h));
      scanned = λ i k w h e below. absurd (omega (arith, h));
    })
    (record {
      finished = λ i h. absurd (omega (arith, h));
      rising = λ l m lt h. absurd (omega (arith, h));
      high = λ m h. absurd (omega (arith, h));
      bounds_rising = λ l m lt h. absurd (omega (arith, h));
      bounds_on_path = λ m h. absurd (omega (arith, h));
      begins = λ h. absurd (omega (arith, h));
      empty = λ e. refl;
    })
    (record {
      flags = length-replicate (nodes g) false;
      ranked = λ k h. absurd (omega (arith, h));
      below = λ k h. absurd (omega (arith, h));
      ordered = λ w k is. absurd (unseen_ranked (unseen_all (nodes g) w) is);
      closed = λ k x h e. absurd (omega (arith, h));
      earlier = λ k h off j x le e. absurd (omega (arith, h));
      on_cycle = λ k h e. absurd (omega (arith, h));
    })

module _ (g : Graph) (s : Search) (k : Keeps g s) (empty : length s.path.items ≡ 0) (seen : (v : ℕ) → v < nodes g → is_unseen (mark s.marks.items v) ≡ false) where
  ranked_at : (v : ℕ) → v < nodes g → (r : ℕ) × (mark s.marks.items v ≡ Mark.Ranked r)
  ranked_at v h = go (mark s.marks.items v) refl
    where
      not_true : true ≡ false → ⊥
      not_true e = cc

      go : (m : Mark) → mark s.marks.items v ≡ m → (r : ℕ) × (mark s.marks.items v ≡ Mark.Ranked r)
      go Mark.Unseen is = absurd (not_true (sym (ap (λ z. is_unseen z) is) ∙ seen v h))
      go (Mark.Stacked i) is = absurd (omega (arith, (k.stack.placed v i is).0, k.path.empty empty))
      go (Mark.Ranked r) is = (r, is)

  -- from below a node on no cycle everything that is reached stands below it
  leads_below : (n : ℕ) → n < length s.order.items → flag s.circular.items (get_or s.order.items n 0) ≡ false → {w x : ℕ} → Leads g w x
      → (r : ℕ) × (r < n) × (mark s.marks.items w ≡ Mark.Ranked r) → (r : ℕ) × (r < n) × (mark s.marks.items x ≡ Mark.Ranked r)
  leads_below n h off {x} (LeadsTo.one {v = w} edge) (r, low, is) =
      k.ranks.earlier n h off r x (omega (arith, low)) (subst (λ z. Edge g z x) (sym (k.ranks.ordered w r is).1) edge)
  leads_below n h off (LeadsTo.more {v = w} {w = y} edge way) (r, low, is) =
      leads_below n h off way (k.ranks.earlier n h off r y (omega (arith, low)) (subst (λ z. Edge g z y) (sym (k.ranks.ordered w r is).1) edge))

  not_below : (n : ℕ) → n < length s.order.items → (r : ℕ) × (r < n) × (mark s.marks.items (get_or s.order.items n 0) ≡ Mark.Ranked r) → ⊥
  not_below n h (r, low, is) = omega (arith, low, ranked_same (k.ranks.ranked n h) is)

  no_cycle : (n : ℕ) → n < length s.order.items → flag s.circular.items (get_or s.order.items n 0) ≡ false → Leads g (get_or s.order.items n 0) (get_or s.order.items n 0) → ⊥
  no_cycle n h off (LeadsTo.one edge) = not_below n h (k.ranks.earlier n h off n (get_or s.order.items n 0) (omega arith) edge)
  no_cycle n h off (LeadsTo.more {w = y} edge way) = not_below n h (leads_below n h off way (k.ranks.earlier n h off n y (omega arith) edge))

  pub ordered_all : Orders g.firsts.items g.targets.items s.order.items s.circular.items
  ordered_all = record {
    flags = k.ranks.flags;
    are_nodes = k.ranks.below;
    all = λ v h. let r = ranked_at v h in let o = k.ranks.ordered v r.0 r.1 in (r.0, o.0, o.1);
    once = λ i j hi hj same. ranked_same (sym (ap (λ z. mark s.marks.items z) same) ∙ k.ranks.ranked i hi) (k.ranks.ranked j hj);
    earlier = λ n w h off edge. let e = k.ranks.earlier n h off n w (omega arith) edge in (e.0, e.1, (k.ranks.ordered w e.0 e.2).1);
    on_cycle = λ v h is_on.
        let r = ranked_at v h in
        let o = k.ranks.ordered v r.0 r.1 in
        subst (λ z. Leads g z z) o.1 (k.ranks.on_cycle r.0 o.0 (ap (λ z. flag s.circular.items z) o.1 ∙ is_on));
    on_none = λ v h off leads.
        let r = ranked_at v h in
        let o = k.ranks.ordered v r.0 r.1 in
        no_cycle r.0 o.0 (ap (λ z. flag s.circular.items z) o.1 ∙ off) (subst (λ z. Leads g z z) (sym o.1) leads);
  }

-- ---- as the code has them

pub frame_node : (stack : List Frame) (i : ℕ) (f : Frame) → i < length stack → f ≡ get_or stack i f → f.node ≡ node stack i
frame_node stack i f h is = ap (λ (x : Frame). x.node) (is ∙ get_or_default stack i f no_frame h)

pub frame_next : (stack : List Frame) (i : ℕ) (f : Frame) → i < length stack → f ≡ get_or stack i f → f.next ≡ next stack i
frame_next stack i f h is = ap (λ (x : Frame). x.next) (is ∙ get_or_default stack i f no_frame h)

pub ranks_one_at : (bottom i : ℕ) (circular : Bool) (stack : List Frame) (marks marks' : List Mark) (order order' pushed : List ℕ) (flags flags' : List Bool) (v n : ℕ)
    → RanksFrom bottom circular stack marks marks' order order' flags flags' i → bottom ≤ i → i < length stack
    → v ≡ node stack i → n ≡ length order' → pushed ≡ order' ++ v ∷ []
    → node stack i < length marks → node stack i < length flags
    → ((j l : ℕ) → j < length stack → l < length stack → node stack j ≡ node stack l → j ≡ l)
    → RanksFrom bottom circular stack marks (set marks' v (Mark.Ranked n)) order pushed flags (set flags' v circular) (i + 1)
ranks_one_at bottom i circular stack marks marks' order order' pushed flags flags' v n r from to is_v is_n is_o marked flagged distinct =
    subst (λ z. RanksFrom bottom circular stack marks (set marks' v (Mark.Ranked n)) order z flags (set flags' v circular) (i + 1)) (sym is_o)
    (subst (λ z. RanksFrom bottom circular stack marks (set marks' v (Mark.Ranked z)) order (order' ++ v ∷ []) flags (set flags' v circular) (i + 1)) (sym is_n)
    (subst (λ z. RanksFrom bottom circular stack marks (set marks' z (Mark.Ranked (length order'))) order (order' ++ z ∷ []) flags (set flags' z circular) (i + 1)) (sym is_v)
    (ranks_one bottom i circular stack marks marks' order order' flags flags' r from to marked flagged distinct)))

pub popped_is : {X : Type 0} (xs ys : List X) (n : ℕ) → ys ≡ take (n - 1) xs → n ≡ length xs → ys ≡ take (length xs - 1) xs
popped_is xs ys n e same = e ∙ ap (λ z. take (z - 1) xs) same

pub true_false : {b : Bool} → b ≡ true → b ≡ false → ⊥
true_false p q = cc

-- the edge that is followed
pub edge_at : (g : Graph) (good : IsGraph g.firsts.items g.targets.items) (s : Search) → Keeps g s → 0 < length s.path.items → (t x w : ℕ) → t ≡ last_of s.path.items → x ≡ next s.stack.items t
    → next s.stack.items t < first_of g (node s.stack.items t + 1) → w ≡ get_or g.targets.items x w → EdgeAt g (node s.stack.items (last_of s.path.items)) (next s.stack.items (last_of s.path.items)) w
edge_at g good s k some t x w is_t is_x more is_w =
    subst (λ z. EdgeAt g (node s.stack.items z) (next s.stack.items z) w) is_t (record {
      from = k.stack.begun t high;
      below = more;
      target = sym (is_w ∙ ap (λ z. get_or g.targets.items z w) is_x ∙ get_or_default g.targets.items (next s.stack.items t) w 0 (omega (arith, more, (last_edge g good (node s.stack.items t) (k.stack.below t high)).1)));
    })
  where
    high : t < length s.stack.items
    high = omega (arith, is_t, k.path.high (length s.path.items - 1) (omega (arith, some)))

pub followed_at : (g : Graph) (good : IsGraph g.firsts.items g.targets.items) (old : Search) (w : ℕ) (k : Keeps g old) (some : 0 < length old.path.items)
    (edge : EdgeAt g (node old.stack.items (last_of old.path.items)) (next old.stack.items (last_of old.path.items)) w) (mid new : Search) → LooksAt g w old mid
    → (t n x : ℕ) → t ≡ last_of old.path.items → n ≡ node old.stack.items t → x ≡ next old.stack.items t
    → new.marks.items ≡ mid.marks.items → new.stack.items ≡ set mid.stack.items t (record { node = n; next = x + 1 })
    → new.path.items ≡ mid.path.items → new.bounds.items ≡ mid.bounds.items → new.order.items ≡ mid.order.items → new.circular.items ≡ mid.circular.items
    → Steps g old new
followed_at g good old w k some edge mid new looks t n x is_t is_n is_x em ef ep eb eo ec = followed g good old w k some edge mid new looks em
    (ef ∙ ap (λ z. set mid.stack.items z (record { node = n; next = x + 1 })) is_t
    ∙ ap (λ z. set mid.stack.items (last_of old.path.items) (record { node = z; next = x + 1 })) (is_n ∙ ap (λ z. node old.stack.items z) is_t)
    ∙ ap (λ z. set mid.stack.items (last_of old.path.items) (record { node = node old.stack.items (last_of old.path.items); next = z + 1 })) (is_x ∙ ap (λ z. next old.stack.items z) is_t))
    ep eb eo ec

pub first_at : (g : Graph) → IsGraph g.firsts.items g.targets.items → (v f : ℕ) → v < nodes g → f ≡ get_or g.firsts.items v f → f ≡ first_of g v
first_at g good v f h is = is ∙ get_or_default g.firsts.items v f 0 (omega (arith, h))

pub enters_at : (g : Graph) (v f : ℕ) (old new : Search) → f ≡ first_of g v → Enters v f old new → Enters v (first_of g v) old new
enters_at g v f old new is enters = subst (λ z. Enters v z old new) is enters

pub mark_at : (marks : List Mark) (w : ℕ) (m n : Mark) → w < length marks → m ≡ get_or marks w m → m ≡ n → mark marks w ≡ n
mark_at marks w m n h is same = sym (get_or_default marks w m Mark.Unseen h) ∙ sym is ∙ same
