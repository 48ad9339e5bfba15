-- Entries of the constraints' formulas that are added to a list, formula by formula.
use Rattle.std.proofs.Common.{◌≡◌, inl, inr, ℕ, zero, suc, ◌+◌, ◌-◌, ◌*◌, add-mul, subst₂, ◌<◌, ◌≤◌, true, false, List, [], ◌∷◌, ◌++◌, length, map, get_or, flat_map, Result, Ok, Err, refl, sym, ◌∙◌, ap, ap₂, subst, arith, append-nil, append_assoc, length-append}
use Rattle.std.specs.Prelude.{IfOk}
use Rattle.std.specs.Global.{Vec}
use Rattle.std.proofs.lemmas.List.{map-append, get_or_append_left, get_or-append_right}
use Rattle.std.proofs.lemmas.Bool.{cases_lt}
use Rattle.kripke_model.specs.Ctl.{Ctl}
use Rattle.kripke_model.specs.System.{System}
use Rattle.path_laws.specs.StateSet.{StateSet}
use Rattle.region_sets.specs.declared.pins.Pin.{Pin}
use Rattle.region_sets.specs.declared.pins.SetRefusal.{SetRefusal}
use Rattle.region_sets.specs.Sets.{Sets, Adds, IsCall, is_one_of}
use Rattle.region_sets.specs.Ranks.{slots}
use Rattle.region_sets.proofs.Changes.{stays, swaps}
use Rattle.region_sets.proofs.Calls.{then_call, let_go, reorders}
use Rattle.fair_rules.specs.FreePart.{path_nodes, path_nodes_of}
use Rattle.fair_fixpoint.specs.Formulas.{node_pins}
use Rattle.fair_fixpoint.specs.Nodes.{AreComputed}
use Rattle.proof_form.specs.Form.{Entry, FreeEntry, entries_sets}
use Rattle.rank_extract.specs.FreeMade.{numbered, numbered_from, AreBothSigns, AreWrittenFor, AreMoved, AreFormulasAdded, free_own, free_seen, free_size}
use Rattle.rank_extract.specs.Made.{entries_own, entries_seen, entry_own, entry_seen, entry_size, total}
use Rattle.rank_extract.proofs.Adding.{IsKind, list_sized, list_stable, to_err, to_ok, to_memory, flat_map-append, total-append, nothing_called}
use Rattle.rank_extract.specs.Given.{wanted}
use Rattle.rank_extract.proofs.Holders.{entry_kind, flat_entries}
use Rattle.rank_extract.proofs.Sizes.{wanted_few}

-- ---- entries of one constraint

numbered_own : (k : ℕ) (es : List (Entry Pin)) → flat_map free_own (map (numbered k) es) ≡ flat_map entry_own es
numbered_own k [] = refl
numbered_own k (e ∷ es) = ap (λ ks. entry_own e ++ ks) (numbered_own k es)

numbered_seen : (s : Sets) (k : ℕ) (es : List (Entry Pin)) → map (free_seen s) (map (numbered k) es) ≡ map (numbered k) (map (entry_seen s) es)
numbered_seen s k [] = refl
numbered_seen s k (e ∷ es) = ap (λ xs. numbered k (entry_seen s e) ∷ xs) (numbered_seen s k es)

sets_append : (xs ys : List (Entry Pin)) → slots (entries_sets (xs ++ ys)) ≡ slots (entries_sets xs) ++ slots (entries_sets ys)
sets_append xs ys = sym (flat_entries (xs ++ ys)) ∙ flat_map-append entry_own xs ys ∙ ap₂ (λ a b. a ++ b) (flat_entries xs) (flat_entries ys)

one_written : (m : System) (visited : List StateSet) (Z fair : StateSet) (f : Ctl) (es : List (Entry StateSet)) → AreBothSigns m visited Z fair f es → AreWrittenFor m visited Z fair (f ∷ []) (es ∷ [])
one_written m visited Z fair f es h = record { count = refl; each = go }
  where
    go : (k : ℕ) → k < 1 → (g : Ctl) (xs : List (Entry StateSet)) → AreBothSigns m visited Z fair (get_or (f ∷ []) k g) (get_or (es ∷ []) k xs)
    go zero lt g xs = h
    go (suc k) lt g xs = absurd (omega (arith, lt))

module _ (m : System) (visited : List StateSet) (Z fair : StateSet) where
  -- a leaf needs nothing
  pub leaf_added : (h : ℕ) (s : Sets) (k : ℕ) (f : Ctl) (old : List (FreeEntry Pin)) → path_nodes f ≡ 0 → AreFormulasAdded {T = Unit {0}} h m visited Z fair s s k (f ∷ []) old old (Ok tt)
  leaf_added h s k f old none = record {
    added = [];
    longer = sym (append-nil old);
    call = nothing_called h s tt;
    written = ([] ∷ [], one_written m visited Z fair f [] (inl (none, refl)), refl);
  }

  module _ (h k : ℕ) (f : Ctl) (s0 s1 s2 : Sets) (es : Vec (Entry Pin)) (old new : List (FreeEntry Pin)) (call : IsCall h s0 s1 (entries_own es) (Ok es)) (seen : AreBothSigns m visited Z fair f (entries_seen s1 es)) where
    without_rest : {T : Type 0} (r : Result T SetRefusal) (p : AreMoved k s1 s2 es.items old new r) → IsCall h s0 s2 (flat_map free_own (map (numbered k) p.moved)) (Ok es)
    without_rest r p =
        let parted : Adds s0 s1 (slots (entries_sets p.moved) ++ slots (entries_sets p.rest)) =
        subst (Adds s0 s1) (ap (λ xs. slots (entries_sets xs)) p.parted ∙ sets_append p.moved p.rest) call.pins in
        subst (λ ks. IsCall h s0 s2 ks (Ok es)) (sym (numbered_own k p.moved ∙ flat_entries p.moved))
        (let_go {xs = slots (entries_sets p.rest)} {ys = slots (entries_sets p.moved)} (reorders call (swaps (slots (entries_sets p.moved)) (slots (entries_sets p.rest)) parted)) p.back p.fulls)

    -- entries that are moved behind a list
    pub moved_added : {T : Type 0} (r : Result T SetRefusal) → AreMoved k s1 s2 es.items old new r → AreFormulasAdded h m visited Z fair s0 s2 k (f ∷ []) old new r
    moved_added {T} (Ok x) p = record {
      added = map (numbered k) p.moved;
      longer = p.longer;
      call = to_ok x (without_rest (Ok x) p);
      written = (
        entries_seen s1 es ∷ [],
        one_written m visited Z fair f (entries_seen s1 es) seen,
        numbered_seen s2 k p.moved
            ∙ ap (map (numbered k)) (list_stable entry_kind s1 s2 p.moved (λ j e. sym (p.back.kept j (subst (λ xs. is_one_of j (slots (entries_sets xs)) ≡ false) (sym p.all) refl)))
            ∙ ap (map (entry_seen s1)) (sym (p.parted ∙ ap (λ xs. p.moved ++ xs) p.all ∙ append-nil p.moved)))
            ∙ sym (append-nil (map (numbered k) (entries_seen s1 es))),
      );
    }
    moved_added {T} (Err refusal) p = record {
      added = map (numbered k) p.moved;
      longer = p.longer;
      call = subst (λ e. IsCall h {T = T} s0 s2 (flat_map free_own (map (numbered k) p.moved)) (Err e)) (sym p.refusal) (to_memory (without_rest (Err refusal) p));
      written = tt;
    }

-- a formula whose entries weren't made
pub formula_refused : {T U : Type 0} (m : System) (visited : List StateSet) (Z fair : StateSet) (h k : ℕ) (f : Ctl) (s0 s1 : Sets) (old : List (FreeEntry Pin)) (e : SetRefusal) → IsCall h {T = U} s0 s1 [] (Err e)
    → AreFormulasAdded {T = T} h m visited Z fair s0 s1 k (f ∷ []) old old (Err e)
formula_refused m visited Z fair h k f s0 s1 old e call = record { added = []; longer = sym (append-nil old); call = to_err e call; written = tt }

-- ---- one formula after another

numbered_append : {A : Type 0} (k : ℕ) (ps qs : List (List (Entry A))) → numbered_from k (ps ++ qs) ≡ numbered_from k ps ++ numbered_from (k + length ps) qs
numbered_append k [] qs = ap (λ n. numbered_from n qs) (let e : k ≡ k + 0 = omega arith in e)
numbered_append k (es ∷ ps) qs =
    ap (λ xs. map (numbered k) es ++ xs) (numbered_append (k + 1) ps qs ∙ ap (λ n. numbered_from (k + 1) ps ++ numbered_from n qs) (let e : k + 1 + length ps ≡ k + length (es ∷ ps) = omega arith in e))
    ∙ sym (append_assoc (map (numbered k) es) (numbered_from (k + 1) ps) (numbered_from (k + length (es ∷ ps)) qs))

free_kind : IsKind free_own free_seen free_size
free_kind = record {
  sized = λ s x. entry_kind.sized s x.entry;
  stable = λ a b x h. ap (numbered x.constraint) (entry_kind.stable a b x.entry h);
}

total_numbered : (k : ℕ) (es : List (Entry StateSet)) → total free_size (map (numbered k) es) ≡ total entry_size es
total_numbered k [] = refl
total_numbered k (e ∷ es) = ap (λ n. entry_size e + n) (total_numbered k es)

module _ (m : System) (visited : List StateSet) (Z fair : StateSet) where
  written_append : (fs gs : List Ctl) (ps qs : List (List (Entry StateSet))) → AreWrittenFor m visited Z fair fs ps → AreWrittenFor m visited Z fair gs qs → AreWrittenFor m visited Z fair (fs ++ gs) (ps ++ qs)
  written_append fs gs ps qs p q = record {
    count = omega (arith, length-append fs gs, length-append ps qs, p.count, q.count);
    each = λ k lt f es. elim (cases_lt k (length fs)) [
      | inl here ↦ subst₂ (AreBothSigns m visited Z fair) (sym (get_or_append_left fs gs f k here)) (sym (get_or_append_left ps qs es k (omega (arith, here, p.count)))) (p.each k here f es)
      | inr past ↦ (let left : k - length ps ≡ k - length fs = omega (arith, p.count) in
          subst₂ (AreBothSigns m visited Z fair) (sym (get_or-append_right fs gs (length fs) k f refl past))
          (sym (get_or-append_right ps qs (length ps) k es refl (omega (arith, past, p.count)) ∙ ap (λ n. get_or qs n es) left))
          (q.each (k - length fs) (omega (arith, lt, past, length-append fs gs)) f es))
    ];
  }

  both_few : (f : Ctl) (es : List (Entry StateSet)) → AreBothSigns m visited Z fair f es → total entry_size es ≤ path_nodes f * node_pins m (length visited)
  both_few f es (inl leaf) = subst (λ xs. total entry_size xs ≤ path_nodes f * node_pins m (length visited)) (sym leaf.1) (omega arith)
  both_few f es (inr (at, computed, is)) = subst (λ xs. total entry_size xs ≤ path_nodes f * node_pins m (length visited)) (sym is) (go f computed)
    where
      go : (f : Ctl) → AreComputed m visited Z fair at f 1 → total entry_size (wanted fair at f 1 true true) ≤ path_nodes f * node_pins m (length visited)
      go (Ctl.Leaf e) c = omega arith
      go (Ctl.Not f) c = wanted_few m visited Z fair at (Ctl.Not f) 1 true true c
      go (Ctl.And f g) c = wanted_few m visited Z fair at (Ctl.And f g) 1 true true c
      go (Ctl.Or f g) c = wanted_few m visited Z fair at (Ctl.Or f g) 1 true true c
      go (Ctl.Implies f g) c = wanted_few m visited Z fair at (Ctl.Implies f g) 1 true true c
      go (Ctl.Iff f g) c = wanted_few m visited Z fair at (Ctl.Iff f g) 1 true true c
      go (Ctl.Quant op f) c = wanted_few m visited Z fair at (Ctl.Quant op f) 1 true true c
      go (Ctl.Until all f g) c = wanted_few m visited Z fair at (Ctl.Until all f g) 1 true true c

  -- so many sets are written of some formulas
  pub written_few : (k : ℕ) (fs : List Ctl) (ps : List (List (Entry StateSet))) → AreWrittenFor m visited Z fair fs ps → total free_size (numbered_from k ps) ≤ path_nodes_of fs * node_pins m (length visited)
  written_few k [] [] p = omega arith
  written_few k [] (es ∷ ps) p = absurd (omega (arith, p.count))
  written_few k (f ∷ fs) [] p = absurd (omega (arith, p.count))
  written_few k (f ∷ fs) (es ∷ ps) p =
      let first = both_few f es (p.each 0 (omega arith) f es) in
      let rest = written_few (k + 1) fs ps (record { count = omega (arith, p.count); each = λ j lt g xs. p.each (suc j) (omega (arith, lt)) g xs }) in
      omega (arith, first, rest, total-append free_size (map (numbered k) es) (numbered_from (k + 1) ps), total_numbered k es, add-mul (path_nodes f) (path_nodes_of fs) (node_pins m (length visited)))

  added_few : {T : Type 0} {h k : ℕ} {s0 s1 : Sets} {fs : List Ctl} {old new : List (FreeEntry Pin)} {y : T} (p : AreFormulasAdded h m visited Z fair s0 s1 k fs old new (Ok y))
      → length (flat_map free_own p.added) ≤ path_nodes_of fs * node_pins m (length visited)
  added_few {T} {h} {k} {s0} {s1} {fs} p =
      let few = written_few k fs p.written.0 p.written.1 in
      omega (arith, list_sized free_kind s1 p.added, ap (total free_size) p.written.2, few)

  pub formulas_then : {T U : Type 0} {h : ℕ} (H k : ℕ) {s0 s1 s2 : Sets} (fs gs : List Ctl) {old mid new : List (FreeEntry Pin)} {y : T} (r : Result U SetRefusal)
      → AreFormulasAdded H m visited Z fair s0 s1 k fs old mid (Ok y) → AreFormulasAdded h m visited Z fair s1 s2 (k + length fs) gs mid new r
      → path_nodes_of fs * node_pins m (length visited) + h ≤ H → AreFormulasAdded H m visited Z fair s0 s2 k (fs ++ gs) old new r
  formulas_then {T} {U} {h} H k {s0} {s1} {s2} fs gs {old} {mid} {new} {y} r p q le = record {
    added = p.added ++ q.added;
    longer = q.longer ∙ ap (λ zs. zs ++ q.added) p.longer ∙ append_assoc old p.added q.added;
    call = subst (λ ks. IsCall H s0 s2 ks r) (sym (flat_map-append free_own p.added q.added)) (then_call H p.call q.call (omega arith) (omega (arith, le, added_few p)));
    written = both r q;
  }
    where
      both : (r : Result U SetRefusal) (q : AreFormulasAdded h m visited Z fair s1 s2 (k + length fs) gs mid new r)
          → IfOk r (λ _. (parts : List (List (Entry StateSet))) × AreWrittenFor m visited Z fair (fs ++ gs) parts × (map (free_seen s2) (p.added ++ q.added) ≡ numbered_from k parts))
      both (Err e) q = tt
      both (Ok z) q = (
        p.written.0 ++ q.written.0,
        written_append fs gs p.written.0 q.written.0 p.written.1 q.written.1,
        map-append (free_seen s2) p.added q.added
            ∙ ap₂ (λ a b. a ++ b) (list_stable free_kind s1 s2 p.added (λ j e. stays q.call.pins j (p.call.pins.there j e)) ∙ p.written.2) (q.written.2 ∙ ap (λ n. numbered_from (k + n) q.written.0) (sym p.written.1.count))
            ∙ sym (numbered_append k p.written.0 q.written.0),
      )

  -- a refusal ends a longer call
  pub formulas_refused : {T U : Type 0} {h k : ℕ} {s0 s1 : Sets} (fs gs : List Ctl) {old new : List (FreeEntry Pin)} (e : SetRefusal) → AreFormulasAdded {T = T} h m visited Z fair s0 s1 k fs old new (Err e) → AreFormulasAdded {T = U} h m visited Z fair s0 s1 k gs old new (Err e)
  formulas_refused fs gs e p = record { added = p.added; longer = p.longer; call = to_err e p.call; written = tt }
