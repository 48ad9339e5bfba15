-- The edges of a graph to which a node comes.
use Rattle.std.proofs.Common.{◌≡◌, ℕ, ◌+◌, ◌-◌, ◌<◌, ◌≤◌, ⊎_elim, List, [], ◌∷◌, ◌++◌, length, get_or, sym, ◌∙◌, ap, subst, arith, length-append, below_more}
use Rattle.std.specs.Prelude.{◌↔◌, Contains}
use Rattle.std.proofs.lemmas.Bool.{cases_lt}
use Rattle.std.proofs.lemmas.List.{get_or_append_left, get_or-append_right, get_or_push, get_or_default, length_push}
use Rattle.std.proofs.lemmas.List.Elements.{Contains-append_left, Contains-append_right, Contains-append_cases}
use Rattle.graph_order.specs.Graphs.{IsStarted, HasEdge}
use Rattle.smv_static.specs.Numbers.{row, IsBelow}
use Rattle.smv_static.specs.Ways.{Edge, HasRows}

module _ (firsts targets more : List ℕ) (started : IsStarted firsts targets) where
  abbrev end : ℕ
  end = length (targets ++ more)

  -- an earlier node keeps its edges
  old_edge : (v w : ℕ) → v + 1 < length firsts → HasEdge firsts targets v w → HasEdge (firsts ++ end ∷ []) (targets ++ more) v w
  old_edge v w low h =
      let from : get_or (firsts ++ end ∷ []) v 0 ≡ get_or firsts v 0 = get_or_append_left firsts (end ∷ []) 0 v (omega arith) in
      let next : get_or (firsts ++ end ∷ []) (v + 1) 0 ≡ get_or firsts (v + 1) 0 = get_or_append_left firsts (end ∷ []) 0 (v + 1) low in
      let within : get_or firsts (v + 1) 0 ≤ length targets = started.within (v + 1) low in (
        h.0,
        record {
          from = let l = h.1.from in omega arith;
          below = let l = h.1.below in omega arith;
          target = get_or_append_left targets more 0 h.0 (let l = h.1.below in omega arith) ∙ h.1.target;
        },
      )

  edge_old : (v w : ℕ) → v + 1 < length firsts → HasEdge (firsts ++ end ∷ []) (targets ++ more) v w → HasEdge firsts targets v w
  edge_old v w low h =
      let from : get_or (firsts ++ end ∷ []) v 0 ≡ get_or firsts v 0 = get_or_append_left firsts (end ∷ []) 0 v (omega arith) in
      let next : get_or (firsts ++ end ∷ []) (v + 1) 0 ≡ get_or firsts (v + 1) 0 = get_or_append_left firsts (end ∷ []) 0 (v + 1) low in
      let within : get_or firsts (v + 1) 0 ≤ length targets = started.within (v + 1) low in
      let below : h.0 < get_or firsts (v + 1) 0 = let l = h.1.below in omega arith in (
        h.0,
        record {
          from = let l = h.1.from in omega arith;
          below = below;
          target = sym (get_or_append_left targets more 0 h.0 (omega arith)) ∙ h.1.target;
        },
      )

  -- the new node has edges to what was added
  module _ (x : ℕ) (nodes : length firsts ≡ x + 1) (full : get_or firsts x 0 ≡ length targets) where
    first_is : get_or (firsts ++ end ∷ []) x 0 ≡ length targets
    first_is = get_or_append_left firsts (end ∷ []) 0 x (omega arith) ∙ full

    pub end_is : get_or (firsts ++ end ∷ []) (x + 1) 0 ≡ end
    end_is = get_or_push firsts end 0 (x + 1) (omega arith)

    new_edge : (w : ℕ) → Contains more w → HasEdge (firsts ++ end ∷ []) (targets ++ more) x w
    new_edge w h =
        let k : ℕ = length targets + h.0 in
        let member : h.0 < length more = h.1 in
        let at : get_or (targets ++ more) k 0 ≡ get_or more (k - length targets) 0 = get_or-append_right targets more (length targets) k 0 (λ i. length targets) (omega arith) in
        let back : k - length targets ≡ h.0 = omega arith in (
          k,
          record {
            from = omega (arith, first_is);
            below = omega (arith, end_is, length-append targets more);
            target = at ∙ ap (λ (j : ℕ). get_or more j 0) back ∙ get_or_default more h.0 0 w h.1 ∙ h.2;
          },
        )

    edge_new : (w : ℕ) → HasEdge (firsts ++ end ∷ []) (targets ++ more) x w → Contains more w
    edge_new w h =
        let k : ℕ = h.0 in
        let from : get_or (firsts ++ end ∷ []) x 0 ≤ k = h.1.from in
        let below : k < get_or (firsts ++ end ∷ []) (x + 1) 0 = h.1.below in
        let high : length targets ≤ k = omega (arith, first_is, from) in
        let low : k - length targets < length more = omega (arith, end_is, length-append targets more, below) in
        let at : get_or (targets ++ more) k 0 ≡ get_or more (k - length targets) 0 = get_or-append_right targets more (length targets) k 0 (λ i. length targets) high in
        (k - length targets, low, get_or_default more (k - length targets) w 0 low ∙ sym at ∙ h.1.target)

module _ (base extra : List (List ℕ)) (variables x : ℕ) where
  abbrev added : List ℕ
  added = row base x ++ row extra x

  row_edge : (w : ℕ) → Contains added w ↔ Edge base extra x w
  row_edge w = (λ h. Contains-append_cases (row base x) (row extra x) w h, λ e. ⊎_elim (λ h. Contains-append_left (row base x) (row extra x) w h) (λ h. Contains-append_right (row base x) (row extra x) w h) e)

  -- the rows of one more node
  pub rows_more : (firsts targets : List ℕ) → IsStarted firsts targets → IsBelow variables base → IsBelow variables extra → HasRows base extra variables x firsts targets
      → HasRows base extra variables (x + 1) (firsts ++ length (targets ++ added) ∷ []) (targets ++ added)
  rows_more firsts targets started b e rows = record {
    nodes = omega (arith, length_push firsts (length (targets ++ added)), rows.nodes);
    full = end_is firsts targets added started x rows.nodes rows.full;
    below = λ k l. ⊎_elim (λ low. subst (λ (z : ℕ). z < variables) (sym (get_or_append_left targets added 0 k low)) (rows.below k low))
        (λ high. let low : k - length targets < length added = omega (arith, l, high, length-append targets added) in
        let at : get_or (targets ++ added) k 0 ≡ get_or added (k - length targets) 0 = get_or-append_right targets added (length targets) k 0 (λ i. length targets) high in
        subst (λ (z : ℕ). z < variables) (sym at) (⊎_elim (b x _) (e x _)
        ((row_edge (get_or added (k - length targets) 0)).0 (k - length targets, low, get_or_default added (k - length targets) (get_or added (k - length targets) 0) 0 low))))
        (cases_lt k (length targets));
    edges = λ v w l. below_more (λ (v : ℕ). (w : ℕ) → HasEdge (firsts ++ length (targets ++ added) ∷ []) (targets ++ added) v w ↔ Edge base extra v w) x
        (λ v low w. let nodes = rows.nodes in
        (λ h. (rows.edges v w low).0 (edge_old firsts targets added started v w (omega arith) h), λ h. old_edge firsts targets added started v w (omega arith) ((rows.edges v w low).1 h)))
        (λ w. (λ h. (row_edge w).0 (edge_new firsts targets added started x rows.nodes rows.full w h), λ h. new_edge firsts targets added started x rows.nodes rows.full w ((row_edge w).1 h))) v l w;
  }

pub rows_same : (base extra : List (List ℕ)) (variables count : ℕ) {firsts targets : List ℕ} {more ends : List ℕ} → firsts ≡ ends → targets ≡ more → HasRows base extra variables count ends more → HasRows base extra variables count firsts targets
rows_same base extra variables count {firsts} {targets} {more} {ends} f t rows =
    subst (λ (xs : List ℕ). HasRows base extra variables count xs targets) (sym f) (subst (λ (ys : List ℕ). HasRows base extra variables count ends ys) (sym t) rows)
