-- The free part of a model, within the pins that it may hold.
use Rattle.std.proofs.Common.{◌≡◌, ℕ, ◌+◌, ◌*◌, ◌≤◌, true, List, [], ◌∷◌, ◌++◌, length, map, flat_map, Some, None, Result, Ok, Err, refl, sym, ◌∙◌, ap, ap₂, subst, arith, length-append}
use Rattle.std.specs.Prelude.{IfOk}
use Rattle.std.specs.Global.{Vec}
use Rattle.std.proofs.Math.Nat.{mul_assoc}
use Rattle.std.proofs.lemmas.Nat.{mul-le}
use Rattle.std.proofs.lemmas.List.{length-map}
use Rattle.kripke_model.specs.Ctl.{Ctl}
use Rattle.kripke_model.specs.Leaves.{HasLeafConstraints}
use Rattle.kripke_model.specs.Step.{IsState}
use Rattle.kripke_model.specs.System.{System, State, constraint_count}
use Rattle.path_laws.specs.StateSet.{StateSet, ◌∈◌}
use Rattle.region_sets.specs.declared.pins.Pin.{Pin}
use Rattle.region_sets.specs.declared.pins.SetRefusal.{SetRefusal}
use Rattle.region_sets.specs.Sets.{Sets, Adds, IsCall, is_one_of, region}
use Rattle.region_sets.specs.Ranks.{slots, regions, lists_slots, list_regions}
use Rattle.path_laws.specs.StateCount.{state_count}
use Rattle.region_sets.proofs.Slots.{is_one_of-left, is_one_of-right}
use Rattle.region_sets.proofs.Calls.{then_call, let_go, stays_over_release}
use Rattle.region_sets.proofs.Released.{slots-append}
use Rattle.fair_rules.specs.FreePart.{constraint_nodes, path_nodes_of}
use Rattle.fair_rules.specs.SetLists.{nothing}
use Rattle.fair_fixpoint.specs.declared.pruning.Pruned.{Pruned}
use Rattle.fair_fixpoint.specs.ConstraintSets.{IsWhole}
use Rattle.fair_fixpoint.specs.Formulas.{node_pins}
use Rattle.fair_fixpoint.specs.Nodes.{NodeView, RanksView}
use Rattle.fair_fixpoint.specs.Pruned.{IsPrunedTo, part_slots}
use Rattle.fair_fixpoint.specs.Runs.{LayerView, layers_slots, layer_views}
use Rattle.fair_fixpoint.specs.SatSets.{pin_bound}
use Rattle.proof_form.specs.Meaning.{free_proof}
use Rattle.proof_form.specs.Form.{Entry, FreePart, layer_sets, fair_sets, entries_sets, free_sets, map_free}
use Rattle.rank_extract.specs.FreeMade.{AreWrittenFor, free_own, free_hold, part_result_slots, written_free}
use Rattle.rank_extract.specs.FreeTop.{IsFreeOf, IsPartMade, base_size, over_hold, part_hold, pruned_base}
use Rattle.rank_extract.specs.Laws.{IsWholeFree}
use Rattle.rank_extract.specs.Given.{written_layer}
use Rattle.rank_extract.specs.Made.{layer_own, fair_own}
use Rattle.rank_extract.proofs.Adding.{list_stable}
use Rattle.rank_extract.proofs.FreeTop.{one_kind, flat_free}
use Rattle.rank_extract.proofs.FreeWhole.{formulas, whole_free}
use Rattle.rank_extract.proofs.Holders.{fair_kind, layer_kind, flat_layers}
use Rattle.rank_extract.proofs.LeafCover.{constraint_true, constraint_false}
use Rattle.rank_extract.proofs.Lines.{no_lines}
use Rattle.rank_extract.proofs.Sizes.{ground_few}

-- ---- how many pins

abbrev any_node : ℕ → NodeView
any_node n = record { plus = nothing; minus = nothing; ranks = RanksView.Plain }

module _ (m : System) (visited : List StateSet) (one : length visited ≡ 1) (Z : StateSet) (now : Sets) (p : Pruned) (pruned : IsPrunedTo m visited Z (layer_views now p.layers.items) (region now p.left) (list_regions now p.reach.items)) where
  pub base_few : base_size (pruned_base now p) ≤ node_pins m 1
  base_few =
      let few = ground_few m visited Z (region now p.left) any_node (layer_views now p.layers.items) (list_regions now p.reach.items) pruned in
      omega (arith, few, ap (node_pins m) one, length-map (layer_views now p.layers.items) written_layer)

  lists_length : (lists : List (Vec Pin)) → length (lists_slots lists) ≡ length (flat_map (λ sets. sets) (list_regions now lists))
  lists_length [] = refl
  lists_length (l ∷ ls) =
      omega (
        arith,
        length-append (slots l.items) (lists_slots ls),
        length-append (regions now l.items) (flat_map (λ sets. sets) (list_regions now ls)),
        length-map l.items (λ (q : Pin). q.slot),
        length-map l.items (λ (q : Pin). region now q),
        lists_length ls,
      )

  pub pruned_few : length (part_slots p) ≤ node_pins m 1
  pruned_few =
      omega (
        arith,
        base_few,
        length-append (layers_slots p.layers.items) (p.left.slot ∷ lists_slots p.reach.items),
        length-map p.layers.items (λ l. l.set.slot),
        length-map p.layers.items (λ l. let v : LayerView = record { avoid = l.avoid; states = region now l.set } in v),
        length-map (layer_views now p.layers.items) written_layer,
        lists_length p.reach.items,
      )

pub over_fits : (m : System) (n : ℕ) → 1 ≤ state_count m → over_hold m n + 1 ≤ pin_bound m n (state_count m)
over_fits m n some = omega (arith, mul_assoc (4 * (n + 2)) (constraint_count m + 2) (state_count m), fit n (state_count m) ((constraint_count m + 2) * state_count m) some (mul-le 3 (state_count m) (constraint_count m + 2) (state_count m) (omega arith) (omega arith)))
  where
    fit : (n s b : ℕ) → 1 ≤ s → 3 * s ≤ b → 2 * n * ((1 + 2) * s + 3) + s + 6 + ((1 + 2) * s + 3) + ((1 + 2) * s + 3) + 3 + 1 ≤ 4 * (n + 2) * b
    fit n s b some wide = omega (arith, mul-le n (3 * s) n b (omega arith) wide, mul-le n 1 n s (omega arith) some, some, wide)

-- ---- the part stands for the same where its pins do

part_is : (x : FreePart Pin) → slots (free_sets x) ≡ flat_map layer_own x.nonfair ++ (fair_own x.fair ++ flat_map free_own x.entries)
part_is x =
    slots-append (layer_sets x.nonfair) (fair_sets x.fair ++ entries_sets (map (λ e. e.entry) x.entries))
    ∙ ap₂ (λ ks js. ks ++ js) (sym (flat_layers x.nonfair)) (slots-append (fair_sets x.fair) (entries_sets (map (λ e. e.entry) x.entries)) ∙ ap (λ js. fair_own x.fair ++ js) (sym (flat_free x.entries)))

part_kept : (a b : Sets) (x : FreePart Pin) → ((k : ℕ) → is_one_of k (flat_map layer_own x.nonfair ++ (fair_own x.fair ++ flat_map free_own x.entries)) ≡ true → b.pins k ≡ a.pins k) → map_free (region b) x ≡ map_free (region a) x
part_kept a b x h = λ i. record {
  nonfair = list_stable layer_kind a b x.nonfair (λ k e. h k (is_one_of-left k (flat_map layer_own x.nonfair) (fair_own x.fair ++ flat_map free_own x.entries) e)) i;
  fair = fair_kind.stable a b x.fair (λ k e. h k (is_one_of-right k (flat_map layer_own x.nonfair) (fair_own x.fair ++ flat_map free_own x.entries) (is_one_of-left k (fair_own x.fair) (flat_map free_own x.entries) e))) i;
  entries = list_stable one_kind a b x.entries (λ k e. h k (is_one_of-right k (flat_map layer_own x.nonfair) (fair_own x.fair ++ flat_map free_own x.entries) (is_one_of-right k (fair_own x.fair) (flat_map free_own x.entries) e))) i;
}

part_same : (a b : Sets) (x : FreePart Pin) → ((k : ℕ) → is_one_of k (slots (free_sets x)) ≡ true → b.pins k ≡ a.pins k) → map_free (region b) x ≡ map_free (region a) x
part_same a b x h = part_kept a b x (λ k e. h k (subst (λ ks. is_one_of k ks ≡ true) (sym (part_is x)) e))

-- after some pins that came before it are released
pub part_left : {a b c : Sets} {T : Type 0} {h : ℕ} {r : Result T SetRefusal} (xs : List ℕ) (x : FreePart Pin) → IsCall h a b (xs ++ slots (free_sets x)) r → Adds c b xs → map_free (region c) x ≡ map_free (region b) x
part_left {a} {b} {c} xs x call back = part_same b c x (λ k e. stays_over_release (slots (free_sets x)) call.pins back k e)

-- ---- by what is left of all states

module _ {m : System} {visited : List StateSet} {Z : StateSet} {s0 s1 s2 s3 : Sets} (fs : List Ctl) (p : Pruned) (one : length visited ≡ 1)
    (h : ℕ) (held : h ≤ node_pins m 1 + 2) (first : IsCall h s0 s1 (part_slots p) (Ok p))
    (pruned : IsPrunedTo m visited Z (layer_views s1 p.layers.items) (region s1 p.left) (list_regions s1 p.reach.items))
    (r : Result (FreePart Pin) SetRefusal)
    (made : IsPartMade (part_hold m (path_nodes_of fs)) m visited Z (region s1 p.left) (layer_views s1 p.layers.items) (list_regions s1 p.reach.items) fs s1 s2 (part_result_slots r) (map_free (region s2)) r)
    (back : Adds s3 s2 (part_slots p)) (fulls : s3.fulls ≡ s2.fulls) where
  both : IsCall (over_hold m (path_nodes_of fs)) s0 s2 (part_slots p ++ part_result_slots r) r
  both = then_call (over_hold m (path_nodes_of fs)) first made.call
      (omega (arith, held)) (omega (arith, pruned_few m visited one Z s1 p pruned))

  pub over_call : IsCall (over_hold m (path_nodes_of fs)) s0 s3 (part_result_slots r) r
  over_call = let_go {xs = part_slots p} {ys = part_result_slots r} both back fulls

  pub over_written : IfOk r (λ part. IsFreeOf m visited Z fs (map_free (region s3) part))
  over_written = go r both made.written
    where
      go : (q : Result (FreePart Pin) SetRefusal) → IsCall (over_hold m (path_nodes_of fs)) s0 s2 (part_slots p ++ part_result_slots q) q
          → IfOk q (λ part. (parts : List (List (Entry StateSet))) × AreWrittenFor m visited Z (region s1 p.left) fs parts × (map_free (region s2) part ≡ written_free (region s1 p.left) (layer_views s1 p.layers.items) (list_regions s1 p.reach.items) parts))
          → IfOk q (λ part. IsFreeOf m visited Z fs (map_free (region s3) part))
      go (Ok part) call w = (region s1 p.left, layer_views s1 p.layers.items, list_regions s1 p.reach.items, w.0, pruned, w.1, part_left (part_slots p) part call back ∙ w.2)
      go (Err e) call w = tt

-- ---- of a model

module _ (m : System) (visits : List Pin) {T : Type 0} {y : T} {s0 s1 s2 s3 : Sets} (states : 1 ≤ state_count m) (first : IsCall 1 s0 s1 (slots visits) (Ok y)) (whole : IsWhole m (regions s1 visits)) (Z : StateSet) (all : (s : State) → IsState m s → s ∈ Z)
    (r : Result (FreePart Pin) SetRefusal) (over : IsCall (over_hold m (constraint_nodes m)) s1 s2 (part_result_slots r) r) (written : IfOk r (λ part. IsFreeOf m (regions s1 visits) Z (formulas m) (map_free (region s2) part)))
    (back : Adds s3 s2 (slots visits)) (fulls : s3.fulls ≡ s2.fulls) where
  one_visit : length (slots visits) ≡ 1
  one_visit = length-map visits (λ (q : Pin). q.slot) ∙ sym (length-map visits (λ (q : Pin). region s1 q)) ∙ whole.0

  with_visits : IsCall (free_hold m) s0 s2 (slots visits ++ part_result_slots r) r
  with_visits = then_call (free_hold m) first over (omega (arith, over_fits m (constraint_nodes m) states)) (omega (arith, over_fits m (constraint_nodes m) states, one_visit))

  pub some_call : IsCall (free_hold m) s0 s3 (part_result_slots r) r
  some_call = let_go {xs = slots visits} {ys = part_result_slots r} with_visits back fulls

  pub some_whole : (HasLeafConstraints m → ⊥) → IfOk r (λ part. IsWholeFree m (Some (map_free (region s3) part)))
  some_whole paths = go r with_visits written
    where
      go : (q : Result (FreePart Pin) SetRefusal) → IsCall (free_hold m) s0 s2 (slots visits ++ part_result_slots q) q → IfOk q (λ part. IsFreeOf m (regions s1 visits) Z (formulas m) (map_free (region s2) part))
          → IfOk q (λ part. IsWholeFree m (Some (map_free (region s3) part)))
      go (Ok part) call w =
          subst (λ v. IsWholeFree m (Some v)) (sym (part_left (slots visits) part call back ∙ w.6))
          (whole_free m (regions s1 visits) whole Z w.0 w.1 w.2 all w.4 w.3 w.5 paths)
      go (Err e) call w = tt

-- ---- over the same model and sets

pub made_here : {m1 m0 : System} {V1 V0 : List StateSet} {Z1 Z0 : StateSet} (n : ℕ) (fair : StateSet) (layers : List LayerView) (reaches : List (List StateSet)) (fs : List Ctl) (s1 s2 : Sets) (own : List ℕ) (seen : FreePart Pin → FreePart StateSet) (r : Result (FreePart Pin) SetRefusal)
    → m1 ≡ m0 → V1 ≡ V0 → Z1 ≡ Z0 → IsPartMade (part_hold m1 n) m1 V1 Z1 fair layers reaches fs s1 s2 own seen r → IsPartMade (part_hold m0 n) m0 V0 Z0 fair layers reaches fs s1 s2 own seen r
made_here {m1} {m0} {V1} {V0} {Z1} {Z0} n fair layers reaches fs s1 s2 own seen r m_is V_is Z_is made =
    subst (λ m. IsPartMade (part_hold m n) m V0 Z0 fair layers reaches fs s1 s2 own seen r) m_is
    (subst (λ V. IsPartMade (part_hold m1 n) m1 V Z0 fair layers reaches fs s1 s2 own seen r) V_is
    (subst (λ Z. IsPartMade (part_hold m1 n) m1 V1 Z fair layers reaches fs s1 s2 own seen r) Z_is made))

pub call_here : {m1 m0 : System} {fs gs : List Ctl} {a b : Sets} {own : List ℕ} {T : Type 0} {r : Result T SetRefusal} → m1 ≡ m0 → fs ≡ gs → IsCall (over_hold m1 (path_nodes_of fs)) a b own r → IsCall (over_hold m0 (path_nodes_of gs)) a b own r
call_here {m1} {m0} {fs} {gs} {a} {b} {own} {T} {r} m_is fs_is call =
    subst (λ m. IsCall (over_hold m (path_nodes_of gs)) a b own r) m_is (subst (λ hs. IsCall (over_hold m1 (path_nodes_of hs)) a b own r) fs_is call)

pub free_here : {m1 m0 : System} {V1 V0 : List StateSet} {fs gs : List Ctl} (Z : StateSet) (seen : FreePart Pin → FreePart StateSet) (r : Result (FreePart Pin) SetRefusal) → m1 ≡ m0 → V1 ≡ V0 → fs ≡ gs
    → IfOk r (λ part. IsFreeOf m1 V1 Z fs (seen part)) → IfOk r (λ part. IsFreeOf m0 V0 Z gs (seen part))
free_here {m1} {m0} {V1} {V0} {fs} {gs} Z seen r m_is V_is fs_is w =
    subst (λ m. IfOk r (λ part. IsFreeOf m V0 Z gs (seen part))) m_is
    (subst (λ V. IfOk r (λ part. IsFreeOf m1 V Z gs (seen part))) V_is
    (subst (λ hs. IfOk r (λ part. IsFreeOf m1 V1 Z hs (seen part))) fs_is w))

-- ---- where no constraint holds a path operator

pub none_whole : (m : System) → HasLeafConstraints m → IsWholeFree m None
none_whole m leaves = record {
  fits = leaves;
  lines = no_lines m;
  true_there = λ k c lt s is_state holds. constraint_true m (free_proof None k) leaves k c lt s holds;
  false_there = λ k c lt s is_state fails. constraint_false m (free_proof None k) leaves k c lt s fails;
}
