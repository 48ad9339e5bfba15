-- The parts of a proof, made one after another.
use Rattle.std.proofs.Common.{◌≡◌, ℕ, ◌+◌, Bool, true, false, not, List, [], ◌∷◌, ◌++◌, length, Option, None, is_none, Ok, Err, refl, sym, ◌∙◌, ap, ap₂, subst, arith, length-append}
use Rattle.std.specs.Global.{Vec}
use Rattle.std.proofs.lemmas.List.{length-map}
use Rattle.kripke_model.specs.System.{State}
use Rattle.path_laws.specs.StateSet.{StateSet}
use Rattle.region_sets.specs.declared.pins.Pin.{Pin}
use Rattle.region_sets.specs.declared.pins.SetRefusal.{SetRefusal}
use Rattle.region_sets.specs.Sets.{Sets, Adds, IsCall, is_one_of}
use Rattle.region_sets.specs.Ranks.{slots}
use Rattle.region_sets.proofs.Slots.{is_one_of-left, is_one_of-right}
use Rattle.region_sets.proofs.Released.{slots-append}
use Rattle.proof_form.specs.Form.{Layer, FairPart, Entry, Proof, layer_sets, fair_sets, rule_sets, entries_sets}
use Rattle.rank_extract.specs.declared.written.Behind.{Behind}
use Rattle.rank_extract.specs.declared.written.MainPart.{MainPart}
use Rattle.rank_extract.specs.Made.{total, many, IsMade, layers_own, layers_seen, fair_own, fair_seen, fair_size, entries_own, entries_seen, entry_size}
use Rattle.rank_extract.specs.Parts.{behind_own, behind_seen, behind_size, main_own, main_seen, main_size}
use Rattle.rank_extract.proofs.Adding.{IsKind}
use Rattle.rank_extract.proofs.Holders.{layer_kind, fair_kind, entry_kind, flat_layers, flat_entries, total_one}
use Rattle.rank_extract.proofs.Makes.{vec_kind, both_call, first_view, second_refused, first_refused}

-- an option has none where it has not some
pub none_is : (some none : Bool) → some ≡ not none → none ≡ not some
none_is some true is = sym (ap not is)
none_is some false is = sym (ap not is)

pub layers_kind : IsKind layers_own layers_seen many
layers_kind = vec_kind (λ ls. slots (layer_sets ls)) flat_layers many total_one layer_kind

pub entries_kind : IsKind entries_own entries_seen (total entry_size)
entries_kind = vec_kind (λ es. slots (entries_sets es)) flat_entries (total entry_size) (λ vs. refl) entry_kind

-- ---- the fair part and the entries

behind_is : (x : Behind) → behind_own x ≡ fair_own x.fair ++ entries_own x.entries
behind_is x = slots-append (fair_sets x.fair) (entries_sets x.entries.items)

behind_same : (a b : Sets) (x : Behind) → ((k : ℕ) → is_one_of k (fair_own x.fair ++ entries_own x.entries) ≡ true → b.pins k ≡ a.pins k) → behind_seen b x ≡ behind_seen a x
behind_same a b x h = λ i. (
  fair_kind.stable a b x.fair (λ k e. h k (is_one_of-left k (fair_own x.fair) (entries_own x.entries) e)) i,
  entries_kind.stable a b x.entries (λ k e. h k (is_one_of-right k (fair_own x.fair) (entries_own x.entries) e)) i,
)

pub behind_kind : IsKind behind_own behind_seen behind_size
behind_kind = record {
  sized = λ s x. ap length (behind_is x) ∙ length-append (fair_own x.fair) (entries_own x.entries) ∙ ap₂ (λ i j. i + j) (fair_kind.sized s x.fair) (entries_kind.sized s x.entries);
  stable = λ a b x h. behind_same a b x (λ k e. h k (subst (λ ks. is_one_of k ks ≡ true) (sym (behind_is x)) e));
}

pub behind_made : {a b c : Sets} {v : FairPart StateSet} {es ws : List (Entry StateSet)} (x : FairPart Pin) (entries : Vec (Entry Pin)) → ws ≡ es → IsMade fair_own fair_seen fair_size a b v (Ok x)
    → IsMade entries_own entries_seen (total entry_size) b c ws (Ok entries) → IsMade behind_own behind_seen behind_size a c (v, es) (Ok (record { fair = x; entries = entries }))
behind_made {a} {b} {c} {v} {es} {ws} x entries same p q =
    let z : Behind = record { fair = x; entries = entries } in
    record {
      call = subst (λ n. IsCall n a c (behind_own z) (Ok z)) (ap (λ vs. fair_size v + total entry_size vs) same)
          (subst (λ ks. IsCall (fair_size v + total entry_size ws) a c ks (Ok z)) (sym (behind_is z)) (both_call fair_kind x entries z p q));
      view = λ i. (first_view fair_kind x p q.call.pins i, (q.view ∙ same) i);
    }

pub behind_stopped : {a b : Sets} {v : FairPart StateSet} {es : List (Entry StateSet)} {e : SetRefusal} → IsMade {X = FairPart Pin} fair_own fair_seen fair_size a b v (Err e)
    → IsMade {X = Behind} behind_own behind_seen behind_size a b (v, es) (Err e)
behind_stopped {a} {b} {v} {es} {e} p = record { call = first_refused (behind_size (v, es)) (omega arith) p; view = tt }

pub behind_refused : {a b c d : Sets} {v : FairPart StateSet} {es ws : List (Entry StateSet)} {e : SetRefusal} (x : FairPart Pin) → ws ≡ es → IsMade fair_own fair_seen fair_size a b v (Ok x)
    → IsMade {X = Vec (Entry Pin)} entries_own entries_seen (total entry_size) b c ws (Err e) → Adds d c (fair_own x) → d.fulls ≡ c.fulls
    → IsMade {X = Behind} behind_own behind_seen behind_size a d (v, es) (Err e)
behind_refused {a} {b} {c} {d} {v} {es} {ws} {e} x same p q back fulls = record {
  call = subst (λ n. IsCall n {T = Behind} a d [] (Err e)) (ap (λ vs. fair_size v + total entry_size vs) same) (second_refused fair_kind x p q back fulls);
  view = tt;
}

-- ---- with the layers

main_is : (x : MainPart) → main_own x ≡ layers_own x.nonfair ++ (fair_own x.fair ++ entries_own x.entries)
main_is x = slots-append (layer_sets x.nonfair.items) (fair_sets x.fair ++ entries_sets x.entries.items) ∙ ap (λ ks. layers_own x.nonfair ++ ks) (slots-append (fair_sets x.fair) (entries_sets x.entries.items))

entries_total : (es : List (Entry StateSet)) → length (entries_sets es) ≡ total entry_size es
entries_total [] = refl
entries_total (e ∷ es) = omega (arith, length-append (rule_sets e.rule) (entries_sets es), entries_total es)

-- how many sets a proof has that has no free part
abbrev plain_proof : Option State → List (Layer StateSet) → FairPart StateSet → List (Entry StateSet) → Proof StateSet
plain_proof st ls v es = record { claim = is_none st; free = None; nonfair = ls; fair = v; entries = es; at = st }

sets_counted : (st : Option State) (ls : List (Layer StateSet)) (v : FairPart StateSet) (es : List (Entry StateSet)) → many ls + (fair_size v + total entry_size es) ≡ main_size (plain_proof st ls v es)
sets_counted st ls v es =
    omega (
      arith,
      length-map ls (λ (l : Layer StateSet). l.set),
      entries_total es,
      length-append (layer_sets ls) (fair_sets v ++ entries_sets es),
      length-append (fair_sets v) (entries_sets es),
    )

main_same : (st : Option State) (a b : Sets) (x : MainPart) → ((k : ℕ) → is_one_of k (layers_own x.nonfair ++ (fair_own x.fair ++ entries_own x.entries)) ≡ true → b.pins k ≡ a.pins k) → main_seen st b x ≡ main_seen st a x
main_same st a b x h = λ i. plain_proof st
    (layers_kind.stable a b x.nonfair (λ k e. h k (is_one_of-left k (layers_own x.nonfair) (fair_own x.fair ++ entries_own x.entries) e)) i)
    (fair_kind.stable a b x.fair (λ k e. h k (is_one_of-right k (layers_own x.nonfair) (fair_own x.fair ++ entries_own x.entries) (is_one_of-left k (fair_own x.fair) (entries_own x.entries) e))) i)
    (entries_kind.stable a b x.entries (λ k e. h k (is_one_of-right k (layers_own x.nonfair) (fair_own x.fair ++ entries_own x.entries) (is_one_of-right k (fair_own x.fair) (entries_own x.entries) e))) i)

pub main_kind : (st : Option State) → IsKind main_own (main_seen st) main_size
main_kind st = record {
  sized = λ s x.
      ap length (main_is x)
      ∙ length-append (layers_own x.nonfair) (fair_own x.fair ++ entries_own x.entries)
      ∙ ap₂ (λ i j. i + j) (layers_kind.sized s x.nonfair) (length-append (fair_own x.fair) (entries_own x.entries) ∙ ap₂ (λ i j. i + j) (fair_kind.sized s x.fair) (entries_kind.sized s x.entries))
      ∙ sets_counted st (layers_seen s x.nonfair) (fair_seen s x.fair) (entries_seen s x.entries);
  stable = λ a b x h. main_same st a b x (λ k e. h k (subst (λ ks. is_one_of k ks ≡ true) (sym (main_is x)) e));
}

module _ (st : Option State) {a b : Sets} {ls : List (Layer StateSet)} {v w : FairPart StateSet × List (Entry StateSet)} (same : w ≡ v) where
  pub main_made : {c : Sets} (layers : Vec (Layer Pin)) (z : Behind) → IsMade layers_own layers_seen many a b ls (Ok layers) → IsMade behind_own behind_seen behind_size b c w (Ok z)
      → IsMade main_own (main_seen st) main_size a c (plain_proof st ls v.0 v.1) (Ok (record { nonfair = layers; fair = z.fair; entries = z.entries }))
  main_made {c} layers z p q =
      let x : MainPart = record { nonfair = layers; fair = z.fair; entries = z.entries } in
      let slots_are : layers_own layers ++ behind_own z ≡ main_own x = sym (slots-append (layer_sets layers.items) (fair_sets z.fair ++ entries_sets z.entries.items)) in
      let view : behind_seen c z ≡ v = q.view ∙ same in
      record {
        call = subst (λ n. IsCall n a c (main_own x) (Ok x)) (ap (λ u. many ls + behind_size u) same ∙ sets_counted st ls v.0 v.1)
            (subst (λ ks. IsCall (many ls + behind_size w) a c ks (Ok x)) slots_are (both_call layers_kind layers z x p q));
        view = λ i. plain_proof st (first_view layers_kind layers p q.call.pins i) ((view i).0) ((view i).1);
      }

  pub main_stopped : {e : SetRefusal} → IsMade {X = Vec (Layer Pin)} layers_own layers_seen many a b ls (Err e) → IsMade {X = MainPart} main_own (main_seen st) main_size a b (plain_proof st ls v.0 v.1) (Err e)
  main_stopped {e} p = record { call = first_refused (main_size (plain_proof st ls v.0 v.1)) (omega (arith, sets_counted st ls v.0 v.1)) p; view = tt }

  pub main_refused : {c d : Sets} {e : SetRefusal} (layers : Vec (Layer Pin)) → IsMade layers_own layers_seen many a b ls (Ok layers) → IsMade {X = Behind} behind_own behind_seen behind_size b c w (Err e)
      → Adds d c (layers_own layers) → d.fulls ≡ c.fulls → IsMade {X = MainPart} main_own (main_seen st) main_size a d (plain_proof st ls v.0 v.1) (Err e)
  main_refused {c} {d} {e} layers p q back fulls = record {
    call = subst (λ n. IsCall n {T = MainPart} a d [] (Err e)) (ap (λ u. many ls + behind_size u) same ∙ sets_counted st ls v.0 v.1) (second_refused layers_kind layers p q back fulls);
    view = tt;
  }
