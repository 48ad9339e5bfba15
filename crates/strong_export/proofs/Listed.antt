-- A certificate over the nodes of a list whose roots have the states of its sets.
use Rattle.std.proofs.Common.{◌≡◌, ◌∙◌, ℕ, suc, ◌<◌, true, false, Bool, List, [], ◌∷◌, length, map, drop}
use Rattle.std.proofs.Common.{refl, sym, ap, subst, arith}
use Rattle.std.specs.Prelude.{◌↔◌, All, Err, IfOk, Ok, Result, slice_index}
use Rattle.std.proofs.lemmas.List.Elements.{All-nil, All-cons}
use Rattle.bdd_nodes.specs.declared.triple.Triple.{Triple}
use Rattle.bdd_nodes.specs.Table.{Has}
use Rattle.bdd_walk.specs.declared.list.NodeList.{NodeList}
use Rattle.bdd_walk.specs.List.{IsGoodList, nodes_of, roots_of}
use Rattle.bit_encode.specs.Code.{Coding, bit_count, state_bits}
use Rattle.diagram_sets.specs.Exports.{HaveStates, coding_by}
use Rattle.kripke_model.specs.Step.{IsState}
use Rattle.kripke_model.specs.System.{System, State}
use Rattle.path_laws.specs.StateSet.{StateSet}
use Rattle.proof_form.specs.Agrees.{SameOn}
use Rattle.proof_text.specs.Meaning.{node_set}
use Rattle.proof_text.specs.Written.{own_order}
use Rattle.region_sets.specs.Ranks.{slots}
use Rattle.region_sets.specs.Sets.{In, Sets, region}
use Rattle.region_sets.specs.declared.pins.Pin.{Pin}
use Rattle.command_replies.specs.SeenRows.{certificate_of}
use Rattle.command_replies.specs.Strong.{IsShownBy, over_nodes}
use Rattle.command_replies.specs.declared.certificate.NodeCertificate.{NodeCertificate}
use Rattle.strong_export.specs.Numbered.{HasSets, IsNumbered, rows_with}
use Rattle.strong_export.specs.Parted.{reasons_in}
use Rattle.strong_export.proofs.SameStates.{AreSameRows, certificate_same}
use Rattle.strong_fair.specs.Form.{Certificate, Row, map_certificate, map_row, row_sets, sets_of}
use Rattle.strong_fair.specs.Pinned.{over_states}
use Rattle.strong_fair.specs.Shows.{IsCertificate}
use Rattle.strong_fair.specs.Strong.{Pair}
use Rattle.strong_fair.specs.declared.certificate.Reason.{Reason}

same_bool : (a b : Bool) → (a ≡ true → b ≡ true) → (b ≡ true → a ≡ true) → a ≡ b
same_bool true b f g = sym (f refl)
same_bool false true f g = g refl
same_bool false false f g = refl

-- ---- sets one for one

-- each set has the states of its fellow
abbrev AreSameSets : System → List StateSet → List StateSet → Type 0
AreSameSets m [] [] = Unit {0}
AreSameSets m [] (b ∷ bs) = ⊥
AreSameSets m (a ∷ rest) [] = ⊥
AreSameSets m (a ∷ rest) (b ∷ bs) = SameOn m a b × AreSameSets m rest bs

module _ (m : System) (sets : Sets) (stands : ℕ → StateSet) where
  -- the states of each slot are those of the set of its number
  abbrev AreAt : List ℕ → List ℕ → Type 0
  AreAt ks ns = (k : ℕ) → k < length ks → (s : State)
      → In sets (slice_index ks k) s ↔ (IsState m s × (stands (slice_index ns k) s ≡ true))

  same_at : (pin : Pin) (n : ℕ)
      → ((s : State) → In sets pin.slot s ↔ (IsState m s × (stands n s ≡ true)))
      → SameOn m (region sets pin) (stands n)
  same_at pin n have s is =
      same_bool (region sets pin s) (stands n s) (λ e. ((have s).0 e).1) (λ e. (have s).1 (is, e))

  pub same_sets : (pins : List Pin) (ns : List ℕ) → length ns ≡ length pins → AreAt (slots pins) ns
      → AreSameSets m (map (region sets) pins) (map stands ns)
  same_sets [] [] long have = tt
  same_sets [] (n ∷ ns) long have = absurd (omega (arith, long))
  same_sets (p ∷ ps) [] long have = absurd (omega (arith, long))
  same_sets (p ∷ ps) (n ∷ ns) long have = (
    same_at p n (λ s. have 0 (omega arith) s),
    same_sets ps ns (omega (arith, long)) (λ k lt s. have (suc k) (omega (arith, lt)) s),
  )

  rows_of_sets : (rows : List (Row Pin)) (ns : List ℕ)
      → AreSameSets m (map (region sets) (row_sets rows)) (map stands ns)
      → AreSameRows m (map (map_row (region sets)) rows)
      (map (map_row stands) (rows_with (map (λ (row : Row Pin). row.reason) rows) ns))
  rows_of_sets [] [] same = tt
  rows_of_sets [] (n ∷ ns) same = absurd same
  rows_of_sets (row ∷ rows) [] same = absurd same
  rows_of_sets (row ∷ rows) (n ∷ ns) same = (refl, same.0, rows_of_sets rows ns same.1)

-- ---- the whole

sets_with : (reasons : List Reason) (ns : List ℕ) → length ns ≡ length reasons
    → row_sets (rows_with reasons ns) ≡ ns
sets_with [] [] long = refl
sets_with [] (n ∷ ns) long = absurd (omega (arith, long))
sets_with (r ∷ rs) [] long = absurd (omega (arith, long))
sets_with (r ∷ rs) (n ∷ ns) long = ap (λ xs. n ∷ xs) (sets_with rs ns (omega (arith, long)))

all_of : (P : ℕ → Type 0) (ns : List ℕ)
    → ((k : ℕ) → k < length ns → P (slice_index ns k)) → All P ns
all_of P [] h = All-nil P
all_of P (n ∷ ns) h =
    All-cons P n ns (h 0 (omega arith)) (all_of P ns (λ k lt. h (suc k) (omega (arith, lt))))

reasons_long : (rows : List (Row Pin))
    → length (map (λ (row : Row Pin). row.reason) rows) ≡ length rows
reasons_long [] = refl
reasons_long (row ∷ rows) = ap suc (reasons_long rows)

pins_long : (rows : List (Row Pin)) → length (row_sets rows) ≡ length rows
pins_long [] = refl
pins_long (row ∷ rows) = ap suc (pins_long rows)

module _ (m : System) (pairs : List Pair) (sets : Sets) (over : sets.over ≡ m)
    (order : sets.gauge.order ≡ own_order m) (c : Certificate Pin)
    (shows : IsCertificate m pairs (over_states sets c)) where
  -- the certificate by the numbers, the first of which is at hand
  shown_by : (nodes : List Triple) (n : ℕ) (ns : List ℕ) → length (n ∷ ns) ≡ length (sets_of c)
      → AreAt m sets (node_set m (own_order m) nodes) (slots (sets_of c)) (n ∷ ns)
      → IsCertificate m pairs (over_nodes m nodes (record {
        inside = n;
        rows = rows_with (reasons_in c) ns;
      }))
  shown_by nodes n ns long have =
      let coded : ℕ → StateSet = node_set m (own_order m) nodes in
      let same = same_sets m sets coded (sets_of c) (n ∷ ns) long have in
      certificate_same m pairs (over_states sets c)
      (map_certificate coded (record { inside = n; rows = rows_with (reasons_in c) ns })) same.0
      (rows_of_sets m sets coded c.rows ns same.1) shows

  listed : (nodes : List Triple) (roots : List ℕ) (reasons : List Reason)
      → length roots ≡ length (sets_of c) → reasons ≡ reasons_in c
      → AreAt m sets (node_set m (own_order m) nodes) (slots (sets_of c)) roots
      → ((k : ℕ) → k < length roots → Has nodes (slice_index roots k))
      → (q : Certificate ℕ) → q.inside ≡ slice_index roots 0
      → q.rows ≡ rows_with reasons (drop 1 roots)
      → IsCertificate m pairs (over_nodes m nodes q) × All (Has nodes) (sets_of q)
  listed nodes [] reasons long are have has q inside rows = absurd (omega (arith, long))
  listed nodes (n ∷ ns) reasons long are have has q inside rows =
      let is : record { inside = n; rows = rows_with (reasons_in c) ns } ≡ q =
      λ i. record {
        inside = sym inside i;
        rows = (ap (λ rs. rows_with rs ns) (sym are) ∙ sym rows) i;
      } in
      let many : length ns ≡ length (reasons_in c) =
      omega (arith, long, pins_long c.rows, reasons_long c.rows) in
      let all : All (Has nodes) (n ∷ row_sets (rows_with (reasons_in c) ns)) =
      subst (λ xs. All (Has nodes) (n ∷ xs)) (sym (sets_with (reasons_in c) ns many))
      (all_of (Has nodes) (n ∷ ns) has) in (
        subst (λ (d : Certificate ℕ). IsCertificate m pairs (over_nodes m nodes d)) is
            (shown_by nodes n ns long have),
        subst (λ (d : Certificate ℕ). All (Has nodes) (sets_of d)) is all,
      )

  pub shown_over : (list : NodeList) (reasons : List Reason) (q : NodeCertificate)
      → HasSets sets (sets_of c) list → reasons ≡ reasons_in c → IsNumbered list reasons q
      → IsShownBy m pairs q.nodes.items (certificate_of q)
  shown_over list reasons q has are numbered =
      let good : IsGoodList (state_bits m) list =
      subst (λ x. IsGoodList (state_bits x) list) over has.good in
      let have : AreAt m sets (node_set m (own_order m) (nodes_of list)) (slots (sets_of c))
      (roots_of list) =
      subst (λ o. AreAt m sets (node_set m o (nodes_of list)) (slots (sets_of c)) (roots_of list))
      order (subst (λ x. AreAt x sets (node_set x sets.gauge.order (nodes_of list))
      (slots (sets_of c)) (roots_of list)) over has.states) in
      let shown = listed (nodes_of list) (roots_of list) reasons has.as_many are have good.roots
      (certificate_of q) numbered.inside numbered.rows in
      subst (λ nodes. IsShownBy m pairs nodes (certificate_of q)) (sym numbered.nodes) (record {
        good = good.nodes;
        sets = shown.1;
        holds = shown.0;
      })

-- ---- the list

pub sets_listed : {E : Type 0} (sets : Sets) (pins named : List Pin) (c : Coding)
    (r : Result NodeList E) → named ≡ pins → c ≡ coding_by sets
    → IfOk r (IsGoodList (bit_count c.types))
    → IfOk r (λ list. length (roots_of list) ≡ length named)
    → IfOk r (HaveStates sets c (slots named)) → IfOk r (HasSets sets pins)
sets_listed sets pins named c (Ok list) same coding good roots states = record {
  good = subst (λ (d : Coding). IsGoodList (bit_count d.types) list) coding good;
  as_many = roots ∙ ap length same;
  states = subst (λ (d : Coding). HaveStates sets d (slots pins) list) coding
      (subst (λ ps. HaveStates sets c (slots ps) list) same states);
}
sets_listed sets pins named c (Err e) same coding good roots states = tt
