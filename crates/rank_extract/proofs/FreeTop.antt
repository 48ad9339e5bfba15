-- A free part, from its entries, and from copies of the layers and of the fair part.
use Rattle.std.proofs.Common.{◌≡◌, ℕ, ◌+◌, ◌*◌, ◌≤◌, true, List, [], ◌∷◌, ◌++◌, length, map, flat_map, Ok, Err, refl, sym, ◌∙◌, ap, ap₂, subst, arith, length-append, append_assoc}
use Rattle.std.specs.Global.{Vec}
use Rattle.kripke_model.specs.Ctl.{Ctl}
use Rattle.kripke_model.specs.System.{System}
use Rattle.path_laws.specs.StateSet.{StateSet}
use Rattle.region_sets.specs.declared.pins.Pin.{Pin}
use Rattle.region_sets.specs.declared.pins.SetRefusal.{SetRefusal}
use Rattle.region_sets.specs.Sets.{Sets, Adds, IsCall, IsLive, is_one_of, region}
use Rattle.region_sets.specs.Ranks.{slots, lists_slots, list_regions, AreLive}
use Rattle.region_sets.proofs.Slots.{is_one_of-first, is_one_of-left, is_one_of-right}
use Rattle.region_sets.proofs.Changes.{stays, swaps}
use Rattle.region_sets.proofs.Calls.{then_call, let_go, holds_more, reorders}
use Rattle.region_sets.proofs.Released.{slots-append}
use Rattle.fair_rules.specs.FreePart.{path_nodes_of}
use Rattle.fair_fixpoint.specs.declared.pruning.Pruned.{Pruned}
use Rattle.fair_fixpoint.specs.Formulas.{node_pins}
use Rattle.fair_fixpoint.specs.Pruned.{part_slots}
use Rattle.fair_fixpoint.specs.Runs.{LayerView, layers_slots}
use Rattle.fair_fixpoint.proofs.Lists.{layer_views-same, list_regions-same}
use Rattle.proof_form.specs.Form.{Layer, FairPart, FreeEntry, FreePart, layer_sets, fair_sets, rule_sets, entries_sets}
use Rattle.rank_extract.specs.declared.free_whole.Base.{Base}
use Rattle.rank_extract.specs.FreeMade.{AreAllEntries, formulas_hold, free_own, free_seen, free_size, free_entries_own, free_entries_seen, numbered, numbered_from}
use Rattle.rank_extract.specs.FreeTop.{IsPartMade, base_sets, base_own, base_seen, base_size, part_hold, pruned_base}
use Rattle.rank_extract.specs.Given.{written_layer}
use Rattle.rank_extract.specs.Made.{total, many, IsMade, fair_of, entry_own, layers_own, layers_seen, fair_own, fair_seen, fair_size}
use Rattle.rank_extract.proofs.Adding.{IsKind, to_err, to_ok}
use Rattle.rank_extract.proofs.FreeAdds.{written_few}
use Rattle.rank_extract.proofs.Holders.{fair_kind, entry_kind}
use Rattle.rank_extract.proofs.Makes.{vec_kind, both_call, first_view, second_refused, first_refused, region_stays}
use Rattle.rank_extract.proofs.Parts.{layers_kind}

-- ---- what is left when layers are taken away

abbrev behind : Pruned → List ℕ
behind p = p.left.slot ∷ lists_slots p.reach.items

module _ (p : Pruned) (a : Sets) (live : AreLive a (part_slots p)) where
  pub layers_live : AreLive a (layers_slots p.layers.items)
  layers_live k e = live k (is_one_of-left k (layers_slots p.layers.items) (behind p) e)

  pub left_live : IsLive a p.left.slot
  left_live = live p.left.slot (is_one_of-right p.left.slot (layers_slots p.layers.items) (behind p) (is_one_of-first p.left.slot (lists_slots p.reach.items)))

  pub reach_live : AreLive a (lists_slots p.reach.items)
  reach_live k e = live k (is_one_of-right k (layers_slots p.layers.items) (behind p) (is_one_of-right k (p.left.slot ∷ []) (lists_slots p.reach.items) e))

  pub base_stays : {b : Sets} {xs : List ℕ} → Adds a b xs → pruned_base b p ≡ pruned_base a p
  base_stays {b} q = λ i. (
    map written_layer (layer_views-same a b p.layers.items (λ k e. stays q k (layers_live k e)) i),
    record { inside = region_stays p.left q left_live i; reach = list_regions-same a b p.reach.items (λ k e. stays q k (reach_live k e)) i },
  )

  pub fair_stays : {b : Sets} {xs : List ℕ} → Adds a b xs → fair_of (region b p.left) (list_regions b p.reach.items) ≡ fair_of (region a p.left) (list_regions a p.reach.items)
  fair_stays {b} q = λ i. fair_of (region_stays p.left q left_live i) (list_regions-same a b p.reach.items (λ k e. stays q k (reach_live k e)) i)

-- ---- the layers and the fair part

base_is : (x : Base) → base_own x ≡ layers_own x.nonfair ++ fair_own x.fair
base_is x = slots-append (layer_sets x.nonfair.items) (fair_sets x.fair)

base_same : (a b : Sets) (x : Base) → ((k : ℕ) → is_one_of k (layers_own x.nonfair ++ fair_own x.fair) ≡ true → b.pins k ≡ a.pins k) → base_seen b x ≡ base_seen a x
base_same a b x h = λ i. (
  layers_kind.stable a b x.nonfair (λ k e. h k (is_one_of-left k (layers_own x.nonfair) (fair_own x.fair) e)) i,
  fair_kind.stable a b x.fair (λ k e. h k (is_one_of-right k (layers_own x.nonfair) (fair_own x.fair) e)) i,
)

pub base_kind : IsKind base_own base_seen base_size
base_kind = record {
  sized = λ s x. ap length (base_is x) ∙ length-append (layers_own x.nonfair) (fair_own x.fair) ∙ ap₂ (λ i j. i + j) (layers_kind.sized s x.nonfair) (fair_kind.sized s x.fair);
  stable = λ a b x h. base_same a b x (λ k e. h k (subst (λ ks. is_one_of k ks ≡ true) (sym (base_is x)) e));
}

module _ {a b : Sets} {ls : List (Layer StateSet)} {v w : FairPart StateSet} (same : w ≡ v) where
  pub base_made : {c : Sets} (layers : Vec (Layer Pin)) (x : FairPart Pin) → IsMade layers_own layers_seen many a b ls (Ok layers) → IsMade fair_own fair_seen fair_size b c w (Ok x)
      → IsMade base_own base_seen base_size a c (ls, v) (Ok (record { nonfair = layers; fair = x }))
  base_made {c} layers x p q =
      let z : Base = record { nonfair = layers; fair = x } in
      record {
        call = subst (λ n. IsCall n a c (base_own z) (Ok z)) (ap (λ u. many ls + fair_size u) same)
            (subst (λ ks. IsCall (many ls + fair_size w) a c ks (Ok z)) (sym (base_is z)) (both_call layers_kind layers x z p q));
        view = λ i. (first_view layers_kind layers p q.call.pins i, (q.view ∙ same) i);
      }

  pub base_stopped : {e : SetRefusal} → IsMade {X = Vec (Layer Pin)} layers_own layers_seen many a b ls (Err e) → IsMade {X = Base} base_own base_seen base_size a b (ls, v) (Err e)
  base_stopped {e} p = record { call = first_refused (base_size (ls, v)) (omega arith) p; view = tt }

  pub base_refused : {c d : Sets} {e : SetRefusal} (layers : Vec (Layer Pin)) → IsMade layers_own layers_seen many a b ls (Ok layers) → IsMade {X = FairPart Pin} fair_own fair_seen fair_size b c w (Err e)
      → Adds d c (layers_own layers) → d.fulls ≡ c.fulls → IsMade {X = Base} base_own base_seen base_size a d (ls, v) (Err e)
  base_refused {c} {d} {e} layers p q back fulls = record {
    call = subst (λ n. IsCall n {T = Base} a d [] (Err e)) (ap (λ u. many ls + fair_size u) same) (second_refused layers_kind layers p q back fulls);
    view = tt;
  }

-- ---- entries

pub one_kind : IsKind free_own free_seen free_size
one_kind = record { sized = λ s x. entry_kind.sized s x.entry; stable = λ a b x h. ap (numbered x.constraint) (entry_kind.stable a b x.entry h) }

pub flat_free : (es : List (FreeEntry Pin)) → flat_map free_own es ≡ slots (entries_sets (map (λ e. e.entry) es))
flat_free [] = refl
flat_free (e ∷ es) = ap (λ ks. entry_own e.entry ++ ks) (flat_free es) ∙ sym (slots-append (rule_sets e.entry.rule) (entries_sets (map (λ x. x.entry) es)))

free_kind : IsKind free_entries_own free_entries_seen (total free_size)
free_kind = vec_kind (λ es. slots (entries_sets (map (λ e. e.entry) es))) flat_free (total free_size) (λ vs. refl) one_kind

-- ---- the free part

module _ (m : System) (visited : List StateSet) (one : length visited ≡ 1) (Z fair : StateSet) (layers : List LayerView) (reaches : List (List StateSet)) (fs : List Ctl) where
  abbrev n : ℕ
  n = path_nodes_of fs

  abbrev based : List (Layer StateSet) × FairPart StateSet
  based = (map written_layer layers, record { inside = fair; reach = reaches })

  module _ (small : base_size (map written_layer layers, record { inside = fair; reach = reaches }) ≤ node_pins m 1) {s0 s1 : Sets} (entries : Vec (FreeEntry Pin))
      (p : IsCall (formulas_hold m (path_nodes_of fs)) s0 s1 (free_entries_own entries) (Ok entries)) (w : AreAllEntries m visited Z fair fs (free_entries_seen s1 entries)) where
    entries_few : length (free_entries_own entries) ≤ n * node_pins m 1
    entries_few =
        let few : total free_size (numbered_from 1 w.0) ≤ n * node_pins m (length visited) = written_few m visited Z fair 1 fs w.0 w.1 in
        let at_one : n * node_pins m (length visited) ≡ n * node_pins m 1 = ap (λ k. n * node_pins m k) one in
        omega (arith, few, at_one, free_kind.sized s1 entries, ap (total free_size) w.2)

    pub part_made : {T : Type 0} {s2 : Sets} (x : Base) (y : T) (own : List ℕ) (seen : T → FreePart StateSet)
        → IsMade base_own base_seen base_size s1 s2 (map written_layer layers, record { inside = fair; reach = reaches }) (Ok x)
        → own ≡ slots (layer_sets x.nonfair.items ++ (fair_sets x.fair ++ entries_sets (map (λ e. e.entry) entries.items)))
        → seen y ≡ record { nonfair = layers_seen s2 x.nonfair; fair = fair_seen s2 x.fair; entries = free_entries_seen s2 entries }
        → IsPartMade (part_hold m (path_nodes_of fs)) m visited Z fair layers reaches fs s0 s2 own seen (Ok y)
    part_made {T} {s2} x y own seen q own_is seen_is =
        let both = then_call (part_hold m n) p q.call (omega arith) (omega (arith, entries_few, small)) in
        let slots_are : base_own x ++ free_entries_own entries ≡ own =
        sym (slots-append (base_sets x) (entries_sets (map (λ e. e.entry) entries.items))) ∙ ap slots (append_assoc (layer_sets x.nonfair.items) (fair_sets x.fair) (entries_sets (map (λ e. e.entry) entries.items))) ∙ sym own_is in
        let size : length (base_own x) ≡ base_size (map written_layer layers, record { inside = fair; reach = reaches }) = base_kind.sized s2 x ∙ ap base_size q.view in
        record {
          call = to_ok y (subst (λ ks. IsCall (part_hold m n) s0 s2 ks (Ok x)) slots_are (reorders both (swaps (free_entries_own entries) (base_own x) both.pins)));
          few = omega (arith, ap length slots_are, length-append (base_own x) (free_entries_own entries), size, small, entries_few);
          written = (
            w.0,
            w.1,
            seen_is ∙ (λ i. record {
              nonfair = (q.view i).0;
              fair = (q.view i).1;
              entries = (free_kind.stable s1 s2 entries (λ k e. stays q.call.pins k (p.pins.there k e)) ∙ w.2) i;
            }),
          );
        }

    pub part_refused : {T : Type 0} {s2 s3 : Sets} {e : SetRefusal} (seen : T → FreePart StateSet)
        → IsMade {X = Base} base_own base_seen base_size s1 s2 (map written_layer layers, record { inside = fair; reach = reaches }) (Err e)
        → Adds s3 s2 (free_entries_own entries) → s3.fulls ≡ s2.fulls → IsPartMade {T = T} (part_hold m (path_nodes_of fs)) m visited Z fair layers reaches fs s0 s3 [] seen (Err e)
    part_refused {T} {s2} {s3} {e} seen q back fulls = record {
      call = to_err e (let_go {xs = free_entries_own entries} {ys = []} (then_call (part_hold m n) p q.call (omega arith) (omega (arith, entries_few, small))) back fulls);
      few = omega arith;
      written = tt;
    }

  pub part_stopped : {T U : Type 0} {s0 s1 : Sets} {e : SetRefusal} (seen : T → FreePart StateSet) → IsCall (formulas_hold m (path_nodes_of fs)) {T = U} s0 s1 [] (Err e)
      → IsPartMade {T = T} (part_hold m (path_nodes_of fs)) m visited Z fair layers reaches fs s0 s1 [] seen (Err e)
  part_stopped {T} {U} {s0} {s1} {e} seen p = record { call = to_err e (holds_more (part_hold m n) (omega arith) p); few = omega arith; written = tt }
