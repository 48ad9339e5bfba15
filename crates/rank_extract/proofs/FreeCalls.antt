-- What the calls hold that write the entries of a formula over all paths.
use Rattle.std.proofs.Common.{◌≡◌, ℕ, zero, suc, ◌+◌, ◌*◌, ◌<◌, ◌≤◌, true, List, [], ◌∷◌, ◌++◌, length, map, flat_map, take, get_or, Result, Ok, Err, refl, sym, ◌∙◌, ap, subst, arith, append-nil, length-take, mul-le-mul_right}
use Rattle.std.specs.Prelude.{IfOk}
use Rattle.std.specs.Global.{Vec}
use Rattle.std.proofs.lemmas.List.{length-map, get_or-map}
use Rattle.std.proofs.lemmas.Result.{IfOk-weaker}
use Rattle.kripke_model.specs.declared.expressions.Formula.{Formula}
use Rattle.kripke_model.specs.Ctl.{Ctl}
use Rattle.kripke_model.specs.Signs.{node_count}
use Rattle.kripke_model.specs.System.{System}
use Rattle.kripke_model.specs.WellFormed.{ctl_of}
use Rattle.path_laws.specs.StateSet.{StateSet}
use Rattle.region_sets.specs.declared.pins.Pin.{Pin}
use Rattle.region_sets.specs.declared.pins.SetRefusal.{SetRefusal}
use Rattle.region_sets.specs.declared.pins.SetRefusal.TheVariants.{Memory}
use Rattle.region_sets.specs.Sets.{Sets, Adds, IsCall, IsLive, has_state, is_one_of, region}
use Rattle.region_sets.specs.Ranks.{AreLive, slots, regions}
use Rattle.path_laws.specs.StateCount.{state_count}
use Rattle.region_sets.proofs.Changes.{adds_after}
use Rattle.region_sets.proofs.Calls.{holds_more, then_call, let_go, stays_over_release}
use Rattle.region_sets.proofs.Released.{slots-append}
use Rattle.fair_rules.specs.FreePart.{path_nodes, path_nodes_of}
use Rattle.fair_fixpoint.specs.declared.runs.NodeRun.{NodeRun}
use Rattle.fair_fixpoint.specs.Formulas.{node_pins}
use Rattle.fair_fixpoint.specs.Nodes.{AreComputed}
use Rattle.fair_fixpoint.specs.Runs.{nodes_slots}
use Rattle.fair_fixpoint.specs.SatSets.{AreNodes, node_of}
use Rattle.proof_form.specs.Form.{Entry, FreeEntry, entries_sets, rule_sets}
use Rattle.rank_extract.specs.FreeMade.{AreAllEntries, AreFormulasAdded, AreOfFormula, formulas_hold, free_entries_own, free_entries_seen, free_own, free_seen}
use Rattle.rank_extract.specs.Given.{wanted}
use Rattle.rank_extract.specs.Made.{IsMade, made_slots, entries_own, entries_seen, entry_own, entry_size, total}
use Rattle.rank_extract.proofs.Adding.{list_stable, nothing_called, take_all, take_next, to_err, to_memory, to_ok}
use Rattle.rank_extract.proofs.FreeAdds.{formulas_refused, formulas_then}
use Rattle.rank_extract.proofs.Holders.{entry_kind, flat_entries}
use Rattle.rank_extract.proofs.Makes.{region_stays, regions_stay}
use Rattle.rank_extract.proofs.Sizes.{wanted_few}

module _ (m : System) (visited : List StateSet) (Z : StateSet) (fair : Pin) (f : Ctl) (s0 s1 s2 s3 : Sets) (nodes : List NodeRun) (one : length visited ≡ 1) (live : IsLive s0 fair.slot)
    {T : Type 0} {x : T} (call : IsCall (node_count f * node_pins m 1 + state_count m + 6) s0 s1 (nodes_slots nodes) (Ok x))
    (are : AreNodes m visited Z (region s0 fair) f s1 nodes) where
  abbrev es : List (Entry StateSet)
  es = wanted (region s1 fair) (node_of s1 nodes) f 1 true true

  fair_same : region s1 fair ≡ region s0 fair
  fair_same = region_stays fair call.pins live

  few_nodes : length (nodes_slots nodes) ≤ node_count f * node_pins m 1
  few_nodes = subst (λ n. length (nodes_slots nodes) ≤ node_count f * node_pins m n) one are.few

  few_sets : total entry_size es ≤ node_count f * node_pins m 1
  few_sets =
      subst (λ n. total entry_size es ≤ node_count f * node_pins m n) one
      (wanted_few m visited Z (region s1 fair) (node_of s1 nodes) f 1 true true (subst (λ F. AreComputed m visited Z F (node_of s1 nodes) f 1) (sym fair_same) are.computed))

  module _ (r : Result (Vec (Entry Pin)) SetRefusal) (made : IsMade entries_own entries_seen (total entry_size) s1 s2 es r) (back : Adds s3 s2 (nodes_slots nodes)) (fulls : s3.fulls ≡ s2.fulls) where
    pub entries_call : IsCall (formulas_hold m (node_count f)) s0 s3 (made_slots entries_own r) r
    entries_call =
        let_go {xs = nodes_slots nodes} {ys = made_slots entries_own r} (then_call (formulas_hold m (node_count f)) call made.call (omega arith) (omega (arith, few_nodes, few_sets))) back fulls

    pub entries_are : IfOk r (λ own. AreOfFormula m visited Z (region s0 fair) f (entries_seen s3 own))
    entries_are = go r made
      where
        go : (r : Result (Vec (Entry Pin)) SetRefusal) → IsMade entries_own entries_seen (total entry_size) s1 s2 es r → IfOk r (λ own. AreOfFormula m visited Z (region s0 fair) f (entries_seen s3 own))
        go (Err e) made = tt
        go (Ok own) made = (
          node_of s1 nodes,
          are.computed,
          list_stable entry_kind s2 s3 own.items
              (λ k e. stays_over_release {xs = nodes_slots nodes} (entries_own own) (adds_after call.pins made.call.pins) back k (subst (λ ks. is_one_of k ks ≡ true) (flat_entries own.items) e))
              ∙ made.view ∙ ap (λ F. wanted F (node_of s1 nodes) f 1 true true) fair_same,
        )

-- ---- in a loop over formulas

nodes_upto : (fs : List Ctl) (k : ℕ) (d : Ctl) → k < length fs → path_nodes_of (take k fs) + path_nodes (get_or fs k d) ≤ path_nodes_of fs
nodes_upto [] k d lt = absurd (omega (arith, lt))
nodes_upto (f ∷ fs) zero d lt = omega arith
nodes_upto (f ∷ fs) (suc k) d lt = let rest = nodes_upto fs k d (omega (arith, lt)) in omega (arith, rest)

enough : (a b P B n : ℕ) → a + b ≤ P → a * B + (2 * b * B + n + 6) ≤ 2 * P * B + n + 6
enough a b P B n le =
    let more : (a + 2 * b) * B ≤ (2 * P) * B = mul-le-mul_right B (omega (arith, le)) in
    omega (arith, more)

module _ (formulas : List Formula) (visits : List Pin) (within fair : Pin) (k : ℕ) (f : Formula) (s0 s1 s2 : Sets) (old mid new : List (FreeEntry Pin))
    (one : length visits ≡ 1) (visits_live : AreLive s0 (slots visits)) (within_live : IsLive s0 within.slot) (fair_live : IsLive s0 fair.slot)
    (lt : k < length formulas) (is : f ≡ get_or formulas k f) where
  abbrev fs : List Ctl
  fs = map ctl_of formulas

  abbrev m : System
  m = s0.over

  abbrev V : List StateSet
  V = regions s0 visits

  place : k < length fs
  place = omega (arith, lt, length-map formulas ctl_of)

  here : ctl_of f ≡ get_or fs k (ctl_of f)
  here = ap ctl_of is ∙ sym (get_or-map ctl_of formulas k f (ctl_of f) lt)

  bound : path_nodes_of (take k fs) * node_pins m (length V) + formulas_hold m (path_nodes (ctl_of f)) ≤ formulas_hold m (path_nodes_of fs)
  bound =
      let few : path_nodes_of (take k fs) + path_nodes (ctl_of f) ≤ path_nodes_of fs =
      subst (λ g. path_nodes_of (take k fs) + path_nodes g ≤ path_nodes_of fs) (sym here) (nodes_upto fs k (ctl_of f) place) in
      subst (λ n. path_nodes_of (take k fs) * node_pins m n + formulas_hold m (path_nodes (ctl_of f)) ≤ formulas_hold m (path_nodes_of fs))
      (sym (length-map visits (λ (pin : Pin). has_state (s0.pins pin.slot)) ∙ one))
      (enough (path_nodes_of (take k fs)) (path_nodes (ctl_of f)) (path_nodes_of fs) (node_pins m 1) (state_count m) few)

  module _ {T U : Type 0} {y : T} {h : ℕ} (p : AreFormulasAdded h m V (region s0 within) (region s0 fair) s0 s1 1 (take k fs) old mid (Ok y)) where
    -- the next call, by the sets as they were at first
    moved_back : (r : Result U SetRefusal) → AreFormulasAdded (formulas_hold s1.over (path_nodes (ctl_of f))) s1.over (regions s1 visits) (region s1 within) (region s1 fair) s1 s2 (k + 1) (ctl_of f ∷ []) mid new r
        → AreFormulasAdded (formulas_hold m (path_nodes (ctl_of f))) m V (region s0 within) (region s0 fair) s1 s2 (1 + length (take k fs)) (ctl_of f ∷ []) mid new r
    moved_back r q =
        subst (λ n. AreFormulasAdded (formulas_hold m (path_nodes (ctl_of f))) m V (region s0 within) (region s0 fair) s1 s2 n (ctl_of f ∷ []) mid new r)
        (let e : k + 1 ≡ 1 + length (take k fs) = omega (arith, length-take k fs, place) in e)
        (subst (λ F. AreFormulasAdded (formulas_hold m (path_nodes (ctl_of f))) m V (region s0 within) F s1 s2 (k + 1) (ctl_of f ∷ []) mid new r) (region_stays fair p.call.pins fair_live)
        (subst (λ F. AreFormulasAdded (formulas_hold m (path_nodes (ctl_of f))) m V F (region s1 fair) s1 s2 (k + 1) (ctl_of f ∷ []) mid new r) (region_stays within p.call.pins within_live)
        (subst (λ W. AreFormulasAdded (formulas_hold m (path_nodes (ctl_of f))) m W (region s1 within) (region s1 fair) s1 s2 (k + 1) (ctl_of f ∷ []) mid new r) (regions_stay visits p.call.pins visits_live)
        (subst (λ x. AreFormulasAdded (formulas_hold x (path_nodes (ctl_of f))) x (regions s1 visits) (region s1 within) (region s1 fair) s1 s2 (k + 1) (ctl_of f ∷ []) mid new r) p.call.pins.over q))))

  pub formulas_more : {T U : Type 0} {y : T} {z : U} → AreFormulasAdded (formulas_hold m (path_nodes_of fs)) m V (region s0 within) (region s0 fair) s0 s1 1 (take k fs) old mid (Ok y)
      → AreFormulasAdded (formulas_hold s1.over (path_nodes (ctl_of f))) s1.over (regions s1 visits) (region s1 within) (region s1 fair) s1 s2 (k + 1) (ctl_of f ∷ []) mid new (Ok z)
      → AreFormulasAdded (formulas_hold m (path_nodes_of fs)) m V (region s0 within) (region s0 fair) s0 s2 1 (take (k + 1) fs) old new (Ok z)
  formulas_more {T} {U} {y} {z} p q =
      subst (λ gs. AreFormulasAdded (formulas_hold m (path_nodes_of fs)) m V (region s0 within) (region s0 fair) s0 s2 1 gs old new (Ok z))
      (ap (λ g. take k fs ++ (g ∷ [])) here ∙ sym (take_next fs k (ctl_of f) place))
      (formulas_then m V (region s0 within) (region s0 fair) (formulas_hold m (path_nodes_of fs)) 1 (take k fs) (ctl_of f ∷ []) (Ok z) p (moved_back p (Ok z) q) bound)

  pub formulas_end : {T U W : Type 0} {y : T} (e : SetRefusal) → AreFormulasAdded (formulas_hold m (path_nodes_of fs)) m V (region s0 within) (region s0 fair) s0 s1 1 (take k fs) old mid (Ok y)
      → AreFormulasAdded {T = U} (formulas_hold s1.over (path_nodes (ctl_of f))) s1.over (regions s1 visits) (region s1 within) (region s1 fair) s1 s2 (k + 1) (ctl_of f ∷ []) mid new (Err e)
      → AreFormulasAdded {T = W} (formulas_hold m (path_nodes_of fs)) m V (region s0 within) (region s0 fair) s0 s2 1 fs old new (Err e)
  formulas_end {T} {U} {W} {y} e p q =
      formulas_refused m V (region s0 within) (region s0 fair) (take k fs ++ (ctl_of f ∷ [])) fs e
      (formulas_then m V (region s0 within) (region s0 fair) (formulas_hold m (path_nodes_of fs)) 1 (take k fs) (ctl_of f ∷ []) (Err e) p (moved_back p (Err e) q) bound)

-- before the first formula, and behind the last one
pub formulas_none : (h : ℕ) (s : Sets) (visits : List Pin) (within fair : Pin) (fs : List Ctl) (old : List (FreeEntry Pin))
    → AreFormulasAdded {T = Unit {0}} h s.over (regions s visits) (region s within) (region s fair) s s 1 (take 0 fs) old old (Ok tt)
formulas_none h s visits within fair fs old = record {
  added = [];
  longer = sym (append-nil old);
  call = nothing_called h s tt;
  written = ([], record { count = sym (ap length (nothing_taken fs)); each = λ k lt f es. absurd (omega (arith, lt, ap length (nothing_taken fs))) }, refl);
}
  where
    nothing_taken : (fs : List Ctl) → take 0 fs ≡ []
    nothing_taken [] = refl
    nothing_taken (f ∷ fs) = refl

pub formulas_done : {T : Type 0} (h : ℕ) (m : System) (V : List StateSet) (Z F : StateSet) (s0 s1 : Sets) (fs : List Ctl) (k : ℕ) (old new : List (FreeEntry Pin)) (y : T) → length fs ≤ k
    → AreFormulasAdded h m V Z F s0 s1 1 (take k fs) old new (Ok y) → AreFormulasAdded {T = Unit {0}} h m V Z F s0 s1 1 fs old new (Ok tt)
formulas_done h m V Z F s0 s1 fs k old new y le p =
    subst (λ gs. AreFormulasAdded h m V Z F s0 s1 1 gs old new (Ok tt)) (take_all fs k le) (record { added = p.added; longer = p.longer; call = to_ok tt p.call; written = p.written })

-- ---- a list that is made by adding to an empty one

flat_free : (es : List (FreeEntry Pin)) → flat_map free_own es ≡ slots (entries_sets (map (λ e. e.entry) es))
flat_free [] = refl
flat_free (e ∷ es) = ap (λ ks. entry_own e.entry ++ ks) (flat_free es) ∙ sym (slots-append (rule_sets e.entry.rule) (entries_sets (map (λ x. x.entry) es)))

module _ {T : Type 0} {h : ℕ} {m : System} {V : List StateSet} {Z F : StateSet} {s0 s1 : Sets} {fs : List Ctl} {old new : List (FreeEntry Pin)} {r : Result T SetRefusal} (xs : Vec (FreeEntry Pin)) (is : xs.items ≡ new) (none : old ≡ [])
    (p : AreFormulasAdded h m V Z F s0 s1 1 fs old new r) where
  added_all : xs.items ≡ p.added
  added_all = is ∙ p.longer ∙ ap (λ zs. zs ++ p.added) none

  own_all : flat_map free_own p.added ≡ free_entries_own xs
  own_all = flat_free p.added ∙ ap (λ zs. slots (entries_sets (map (λ e. e.entry) zs))) (sym added_all)

  pub all_call : IsCall h s0 s1 (free_entries_own xs) r
  all_call = subst (λ ks. IsCall h s0 s1 ks r) own_all p.call

  pub all_seen : IfOk r (λ _. AreAllEntries m V Z F fs (free_entries_seen s1 xs))
  all_seen = IfOk-weaker r _ _ (λ x w. (w.0, w.1, ap (map (free_seen s1)) added_all ∙ w.2)) p.written

-- where one was refused those before are released
pub all_released : {T U : Type 0} {h : ℕ} {m : System} {V : List StateSet} {Z F : StateSet} {s0 s1 s2 : Sets} {fs : List Ctl} {old new : List (FreeEntry Pin)} {e : SetRefusal} (xs : Vec (FreeEntry Pin)) (is : xs.items ≡ new) (none : old ≡ [])
    (p : AreFormulasAdded {T = T} h m V Z F s0 s1 1 fs old new (Err e)) → Adds s2 s1 (free_entries_own xs) → s2.fulls ≡ s1.fulls → IsCall h {T = U} s0 s2 [] (Err e)
all_released {T} {U} {h} {m} {V} {Z} {F} {s0} {s1} {s2} {fs} {old} {new} {e} xs is none p back fulls =
    to_err e (let_go {xs = free_entries_own xs} {ys = []} (subst (λ ks. IsCall h {T = T} s0 s1 ks (Err e)) (sym (append-nil (free_entries_own xs))) (all_call xs is none p)) back fulls)

-- ---- the nodes of a formula

-- by one set to visit
pub nodes_hold : {T : Type 0} {xs : List ℕ} {r : Result T SetRefusal} (m : System) (n v : ℕ) (s0 s1 : Sets) → v ≡ 1 → IsCall (n * node_pins m v + state_count m + 6) s0 s1 xs r → IsCall (n * node_pins m 1 + state_count m + 6) s0 s1 xs r
nodes_hold {T} {xs} {r} m n v s0 s1 one call = subst (λ k. IsCall (n * node_pins m k + state_count m + 6) s0 s1 xs r) one call

pub nodes_more : {T : Type 0} {xs : List ℕ} {r : Result T SetRefusal} (m : System) (n v : ℕ) (s0 s1 : Sets) → v ≡ 1 → IsCall (n * node_pins m v + state_count m + 6) s0 s1 xs r → IsCall (formulas_hold m n) s0 s1 xs r
nodes_more {T} {xs} {r} m n v s0 s1 one call = holds_more (formulas_hold m n) (omega arith) (nodes_hold m n v s0 s1 one call)

-- nodes that are released at once
pub nodes_released : {T U : Type 0} {xs : List ℕ} {r : Result T SetRefusal} (m : System) (n v : ℕ) (s0 s1 s2 : Sets) → v ≡ 1 → IsCall (n * node_pins m v + state_count m + 6) s0 s1 xs r → Adds s2 s1 xs → s2.fulls ≡ s1.fulls
    → IsCall (formulas_hold m n) {T = U} s0 s2 [] (Err Memory)
nodes_released {T} {U} {xs} {r} m n v s0 s1 s2 one call back fulls =
    to_memory (let_go {xs = xs} {ys = []} (subst (λ ks. IsCall (formulas_hold m n) s0 s1 ks r) (sym (append-nil xs)) (nodes_more m n v s0 s1 one call)) back fulls)
