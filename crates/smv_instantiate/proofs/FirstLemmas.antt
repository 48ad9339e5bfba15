-- The places of the elements of arrays among the flat variables.
use Rattle.std.proofs.Common.{◌≡◌, refl, sym, ◌∙◌, ap, subst, ℕ, zero, suc, ◌<◌, ◌≤◌, ◌+◌, ◌-◌, ◌*◌, arith, List, [], ◌∷◌, ◌++◌, length, take, drop, reverse, get_or, true, false, Some, None, Option, inl, inr}
use Rattle.std.specs.Prelude.{flat_map, slice_get, ltb, IfSome, IfNone}
use Rattle.std.specs.List.{AllZip, list_any}
use Rattle.std.specs.Str.{bytes_eq}
use Rattle.std.proofs.lemmas.Bool.{cases_lt, false≢true, lt-ltb, or_left, or_right}
use Rattle.std.proofs.lemmas.List.{length-take-le, reverse-reverse, reverse-append, take-append-drop, take_more}
use Rattle.std.proofs.lemmas.Option.{slice_get_within}
use Rattle.kripke_model.specs.Refusing.{Silent}
use Rattle.kripke_model.specs.System.{Variable}
use Rattle.smv_instances.specs.Program.{Name, Path, Plain, Program}
use Rattle.smv_instances.specs.Entries.{Entity, Entry, entity_in, entries}
use Rattle.smv_instances.specs.Instances.{Scope, module_of, instances, all_entries, indexed, between, rising, element_names, spelled, place_of, variable_names, variables}
use Rattle.smv_instances.specs.Numbered.{scope_at}
use Rattle.smv_instances.specs.Declarations.{refused_declarations, is_reversed, variable_count}
use Rattle.smv_instances.proofs.RowLemmas.{pairs_get, slice_get_left}
use Rattle.smv_names.specs.declared.targets.Bracket.{Bracket as Held}
use Rattle.smv_names.specs.Denotes.{Bracket}
use Rattle.smv_names.specs.Expands.{is_array, element_name, Selects, IsIndex, AreIndexes}
use Rattle.smv_names.specs.Targets.{AreBrackets, IsBracket}
use Rattle.smv_names.proofs.NodeLemmas.{flat_get}
use Rattle.smv_names.proofs.PairLemmas.{pairs_drop, pairs_reverse}
use Rattle.smv_instantiate.specs.Firsts.{first_element, AreFirsts, IsFirst, IsWithin, offset}
use Rattle.smv_instantiate.specs.Written.{IsWrittenType, IsWritten}
use Rattle.smv_instantiate.proofs.Members.{In, Distinct, slice_in, in_block}
use Rattle.smv_instantiate.proofs.BodyLemmas.{IsWrittenEntity}
use Rattle.smv_instantiate.proofs.BodySteps.{name_among}
use Rattle.smv_instantiate.proofs.TypeLemmas.{length_map, length_rising}
use Rattle.smv_instantiate.proofs.CountLemmas.{total_one, elements_each, elements_count}
use Rattle.smv_instantiate.proofs.TargetLemmas.{Peels, IsStored, good_target, stored_block, entry_written}
use Rattle.smv_instantiate.proofs.PathSteps.{IsStoredAt}
use Rattle.smv_instantiate.proofs.ProcessSteps.{place_at}
use Rattle.smv_instantiate.proofs.DeclaredLemmas.{kept, names_distinct, not_reversed, variable_count as few_variables}

-- ---- the first element

-- it stands first
pub first_stands : (type : Plain) (x : Name) → (is_reversed type ≡ true → ⊥) → slice_get (element_names type x) 0 ≡ Some (first_element type x)
first_stands Plain.Boolean x straight = refl
first_stands (Plain.Enumeration constants) x straight = refl
first_stands (Plain.Range low high) x straight = refl
first_stands (Plain.Array low high element) x straight =
    let inner = first_stands element (indexed x low) (λ back. straight (or_right (ltb high low) (is_reversed element) back)) in
    elim (cases_lt high low) [
      | inl less ↦ absurd (straight (or_left (ltb high low) (is_reversed element) (lt-ltb high low less)))
      | inr upto ↦ there (high + 1 - low) (high - low) (omega (arith, upto)) inner
    ]
  where
    there : (n m : ℕ) → n ≡ suc m → slice_get (element_names element (indexed x low)) 0 ≡ Some (first_element element (indexed x low)) → slice_get (flat_map (λ i. element_names element (indexed x i)) (rising low n)) 0 ≡ Some (first_element element (indexed x low))
    there n m is inner = ap (λ k. slice_get (flat_map (λ i. element_names element (indexed x i)) (rising low k)) 0) is
        ∙ slice_get_left (element_names element (indexed x low)) (flat_map (λ i. element_names element (indexed x i)) (rising (low + 1) m)) 0 (first_element element (indexed x low)) inner

-- ---- the element of some indexes

rising_get : (low n k : ℕ) → k < n → slice_get (rising low n) k ≡ Some (low + k)
rising_get low zero k below = absurd (omega (arith, below))
rising_get low (suc n) zero below = ap Some (omega arith)
rising_get low (suc n) (suc k) below = rising_get (low + 1) n k (omega (arith, below)) ∙ ap Some (omega arith)

-- with one index
index_at : (type : Plain) (x w : Name) (low high n j : ℕ) → low ≤ n → n ≤ high → slice_get (element_names type (indexed x n)) j ≡ Some w
    → slice_get (element_names (Plain.Array low high type) x) ((n - low) * variable_count type + j) ≡ Some w
index_at type x w low high n j from upto at =
    let last : low + (n - low) ≡ n = omega (arith, from) in
    let there : slice_get (between low high) (n - low) ≡ Some n = rising_get low (high + 1 - low) (n - low) (omega (arith, from, upto)) ∙ ap Some last in
    let within : n - low ≤ length (between low high) = omega (arith, length_rising low (high + 1 - low), from, upto) in
    let before : length (flat_map (λ i. element_names type (indexed x i)) (take (n - low) (between low high))) ≡ (n - low) * variable_count type =
    sym (total_one (flat_map (λ i. element_names type (indexed x i)) (take (n - low) (between low high))))
    ∙ elements_each (λ i. element_names type (indexed x i)) (variable_count type) (take (n - low) (between low high)) (λ i. elements_count type (indexed x i))
    ∙ ap (λ k. k * variable_count type) (length-take-le (n - low) (between low high) within) in
    ap (λ k. slice_get (element_names (Plain.Array low high type) x) (k + j)) (sym before)
    ∙ flat_get (λ i. element_names type (indexed x i)) (between low high) (n - low) j n w there at

in_rows : (o w d c j : ℕ) → (o * w + d) * c + j ≡ o * (w * c) + (d * c + j)
in_rows o w d c j = grind arith

-- with all of them
pub offset_at : (p : Program) (root type : Plain) (z w : Name) (hs : List Held) (bs : List Bracket) (ns : List ℕ) (j : ℕ) → Peels root bs type → AreIndexes p bs ns → AllZip (IsBracket p) hs bs
    → slice_get (element_names type (element_name z ns)) j ≡ Some w → slice_get (element_names root z) (offset hs ns * variable_count type + j) ≡ Some w
offset_at p root type z w [] [] [] j peels values are at =
    let none : 0 * variable_count type + j ≡ j = omega arith in
    ap (slice_get (element_names root z)) none ∙ subst (λ t. slice_get (element_names t z) j ≡ Some w) (sym peels) at
offset_at p root type z w [] [] (n ∷ ns) j peels values are at = elim values [ ]
offset_at p root type z w [] (b ∷ bs) ns j peels values are at = absurd are
offset_at p root type z w (h ∷ hs) [] ns j peels values are at = absurd are
offset_at p root type z w (h ∷ hs) (b ∷ bs) [] j peels values are at = elim values [ ]
offset_at p root type z w (h ∷ hs) (b ∷ bs) (n ∷ ns) j peels (AreIndexes.index (IsIndex.value expands arithmetic has from upto) rest) are at =
    let low : offset hs ns * (h.high + 1 - h.low) + (n - h.low) ≡ offset hs ns * (b.high + 1 - b.low) + (n - b.low) =
    ap (λ k. offset hs ns * (h.high + 1 - k) + (n - k)) are.0.low_is ∙ ap (λ k. offset hs ns * (k + 1 - b.low) + (n - b.low)) are.0.high_is in
    ap (λ k. slice_get (element_names root z) (k * variable_count type + j)) low
    ∙ ap (slice_get (element_names root z)) (in_rows (offset hs ns) (b.high + 1 - b.low) (n - b.low) (variable_count type) j)
    ∙ offset_at p root (Plain.Array b.low b.high type) z w hs bs ns ((n - b.low) * variable_count type + j) peels rest are.1 (index_at type (element_name z ns) w b.low b.high n j from upto at)

-- ---- bounds

peeled_written : (root type : Plain) (bs : List Bracket) → Peels root bs type → IsWrittenType root → IsWrittenType type
peeled_written root type [] peels w = subst IsWrittenType peels w
peeled_written root type (b ∷ bs) peels w = (peeled_written root (Plain.Array b.low b.high type) bs peels w).2

-- the values of indexes lie within the bounds
all_within : (p : Program) (root type : Plain) (hs : List Held) (bs : List Bracket) (ns : List ℕ) → Peels root bs type → IsWrittenType root → AreIndexes p bs ns → AllZip (IsBracket p) hs bs → AllZip IsWithin hs ns
all_within p root type [] [] [] peels w values are = tt
all_within p root type [] [] (n ∷ ns) peels w values are = elim values [ ]
all_within p root type [] (b ∷ bs) ns peels w values are = absurd are
all_within p root type (h ∷ hs) [] ns peels w values are = absurd are
all_within p root type (h ∷ hs) (b ∷ bs) [] peels w values are = elim values [ ]
all_within p root type (h ∷ hs) (b ∷ bs) (n ∷ ns) peels w (AreIndexes.index (IsIndex.value expands arithmetic has from upto) rest) are =
    let top : b.high ≤ 2147483647 = (peeled_written root (Plain.Array b.low b.high type) bs peels w).1 in (
      (subst (λ k. k ≤ n) (sym are.0.low_is) from, subst (λ k. n ≤ k) (sym are.0.high_is) upto, subst (λ k. k ≤ 2147483647) (sym are.0.high_is) top),
      all_within p root (Plain.Array b.low b.high type) hs bs ns peels w rest are.1,
    )

one_name : (type : Plain) (z : Name) → is_array type ≡ false → slice_get (element_names type z) 0 ≡ Some z
one_name Plain.Boolean z flat = refl
one_name (Plain.Enumeration constants) z flat = refl
one_name (Plain.Range low high) z flat = refl
one_name (Plain.Array low high element) z flat = cc

-- ---- counting, the first index first

at_least : (o w : ℕ) → 1 ≤ w → o ≤ o * w
at_least o zero some = absurd (omega (arith, some))
at_least o (suc v) some = grind arith

-- with more indexes no fewer elements stand before
offset_rises : (hs : List Held) (ms : List ℕ) (bs : List Held) (ns : List ℕ) → AllZip IsWithin hs ms → offset bs ns ≤ offset (hs ++ bs) (ms ++ ns)
offset_rises [] [] bs ns all = omega arith
offset_rises [] (m ∷ ms) bs ns all = absurd all
offset_rises (h ∷ hs) [] bs ns all = absurd all
offset_rises (h ∷ hs) (m ∷ ms) bs ns all =
    let rest : offset bs ns ≤ offset (hs ++ bs) (ms ++ ns) = offset_rises hs ms bs ns all.1 in
    let more : offset (hs ++ bs) (ms ++ ns) ≤ offset (hs ++ bs) (ms ++ ns) * (h.high + 1 - h.low) = at_least (offset (hs ++ bs) (ms ++ ns)) (h.high + 1 - h.low) (omega (arith, all.0.0, all.0.1)) in
    omega (arith, rest, more)

-- those so far
abbrev pub offset_so_far : List Held → List ℕ → ℕ → ℕ
offset_so_far hs vs k = offset (reverse (take k hs)) (reverse (take k vs))

pub offset_upto : (hs : List Held) (vs : List ℕ) (k : ℕ) → AllZip IsWithin hs vs → offset_so_far hs vs k ≤ offset (reverse hs) (reverse vs)
offset_upto hs vs k h =
    let front : reverse hs ≡ reverse (drop k hs) ++ reverse (take k hs) = ap reverse (sym (take-append-drop k hs)) ∙ reverse-append (take k hs) (drop k hs) in
    let values : reverse vs ≡ reverse (drop k vs) ++ reverse (take k vs) = ap reverse (sym (take-append-drop k vs)) ∙ reverse-append (take k vs) (drop k vs) in
    subst (λ gs. offset_so_far hs vs k ≤ offset gs (reverse vs)) (sym front) (subst (λ ms. offset_so_far hs vs k ≤ offset (reverse (drop k hs) ++ reverse (take k hs)) ms) (sym values)
    (offset_rises (reverse (drop k hs)) (reverse (drop k vs)) (reverse (take k hs)) (reverse (take k vs)) (pairs_reverse IsWithin (drop k hs) (drop k vs) (pairs_drop IsWithin k hs vs h))))

-- one index more
pub offset_more : (hs : List Held) (vs : List ℕ) (k : ℕ) (h : Held) (v : ℕ) → k < length hs → k < length vs → h ≡ get_or hs k h → v ≡ get_or vs k v → offset_so_far hs vs (k + 1) ≡ offset_so_far hs vs k * (h.high + 1 - h.low) + (v - h.low)
offset_more hs vs k h v below within at is =
    let front : reverse (take (k + 1) hs) ≡ h ∷ reverse (take k hs) = ap reverse (take_more hs k h below ∙ ap (λ z. take k hs ++ (z ∷ [])) (sym at)) ∙ reverse-append (take k hs) (h ∷ []) in
    let values : reverse (take (k + 1) vs) ≡ v ∷ reverse (take k vs) = ap reverse (take_more vs k v within ∙ ap (λ z. take k vs ++ (z ∷ [])) (sym is)) ∙ reverse-append (take k vs) (v ∷ []) in
    ap (λ z. offset z (reverse (take (k + 1) vs))) front ∙ ap (offset (h ∷ reverse (take k hs))) values

pub pair_within : (hs : List Held) (vs : List ℕ) (k : ℕ) (h : Held) (v : ℕ) → AllZip IsWithin hs vs → k < length hs → h ≡ get_or hs k h → v ≡ get_or vs k v → IsWithin h v
pair_within [] vs k h v all below at is = absurd (omega (arith, below))
pair_within (g ∷ hs) [] k h v all below at is = absurd all
pair_within (g ∷ hs) (m ∷ ms) zero h v all below at is = subst (λ z. IsWithin z v) (sym at) (subst (IsWithin g) (sym is) all.0)
pair_within (g ∷ hs) (m ∷ ms) (suc k) h v all below at is = pair_within hs ms k h v all.1 (omega (arith, below)) at is

-- ---- flat variables

place_found : (names : List Name) (x : Name) (found : Option ℕ) → In x names → IfSome found (λ k. k ≡ place_of names x) → IfNone found (list_any (bytes_eq x) names ≡ false) → found ≡ Some (place_of names x)
place_found names x None i some none = absurd (false≢true (sym none ∙ name_among x names i))
place_found names x (Some k) i some none = ap Some some

abbrev root_or : Plain → Entity → Plain
root_or d (Entity.Stored type) = type
root_or d e = d

pub same_type : {type root : Plain} → Entity.Stored type ≡ Entity.Stored root → type ≡ root
same_type {type} e = ap (root_or type) e

-- the table has it at the number of the entry
pub first_held : (p : Program) (firsts : List (Option ℕ)) (node : ℕ) (s : Scope) (e : Entry) (x : Name) (type : Plain) → AreFirsts p firsts → slice_get (all_entries p) node ≡ Some (s, e) → e.entity ≡ Entity.Stored type → e.name ≡ x
    → slice_get firsts node ≡ Some (Some (place_of (variable_names p) (first_element type (spelled s x))))
first_held p firsts node s e x type are stands is named =
    let f = pairs_get (IsFirst p) firsts (all_entries p) node (s, e) are stands in
    f.1 ∙ ap Some (f.2 type is) ∙ ap (λ y. Some (Some (place_of (variable_names p) (first_element type (spelled s y))))) named

module _ (p : Program) (silent : Silent (refused_declarations p)) (written : IsWritten p) where
  -- the elements of a variable or an array stand from the first one on
  pub element_place : (home : Scope) (e : Entry) (root : Plain) (j : ℕ) (z : Name) → In home (instances p) → In e (entries (module_of home)) → e.entity ≡ Entity.Stored root → slice_get (element_names root (spelled home e.name)) j ≡ Some z
      → (place_of (variable_names p) z ≡ place_of (variable_names p) (first_element root (spelled home e.name)) + j) × (place_of (variable_names p) z < length (variable_names p))
  element_place home e root j z i l is at =
      let b = stored_block p (kept p silent written) home e root i l is in
      let names : Distinct (variable_names p) = names_distinct p silent written in
      let first : place_of (variable_names p) (first_element root (spelled home e.name)) ≡ b.start + 0 =
      place_at (variable_names p) (b.start + 0) (first_element root (spelled home e.name)) names (b.at 0 (first_element root (spelled home e.name)) (first_stands root (spelled home e.name) (not_reversed p silent written home e root i l is))) in
      let here : place_of (variable_names p) z ≡ b.start + j = place_at (variable_names p) (b.start + j) z names (b.at j z at) in
      let below : b.start + j < length (variable_names p) = slice_get_within (variable_names p) (b.start + j) z (b.at j z at) in
      (omega (arith, first, here), omega (arith, here, below))

  -- the name of the first element is found among those of the flat variables
  pub first_is : (s : Scope) (e : Entry) (root : Plain) (found : Option ℕ) → In s (instances p) → In e (entries (module_of s)) → e.entity ≡ Entity.Stored root
      → IfSome found (λ k. k ≡ place_of (variable_names p) (first_element root (spelled s e.name))) → IfNone found (list_any (bytes_eq (first_element root (spelled s e.name))) (variable_names p) ≡ false) → IsFirst p found (s, e)
  first_is s e root found i l is some none type same =
      let there : In (first_element root (spelled s e.name)) (variable_names p) = in_block (stored_block p (kept p silent written) s e root i l is)
      (slice_in (element_names root (spelled s e.name)) 0 (first_element root (spelled s e.name)) (first_stands root (spelled s e.name) (not_reversed p silent written s e root i l is))) in
      place_found (variable_names p) (first_element root (spelled s e.name)) found there some none
      ∙ ap (λ t. Some (place_of (variable_names p) (first_element t (spelled s e.name)))) (same_type (sym is ∙ same))

  -- the flat variable of an element by the values of its indexes, the first one first
  pub record IsCounted (home : Scope) (x : Name) (root : Plain) (held : List Held) (values : List ℕ) : Type 0 where
    pub within : AllZip IsWithin held values
    pub place : place_of (variable_names p) (element_name (spelled home x) (reverse values)) ≡ place_of (variable_names p) (first_element root (spelled home x)) + offset (reverse held) (reverse values)
    pub few : place_of (variable_names p) (element_name (spelled home x) (reverse values)) < 256

  pub counted : (home : Scope) (x : Name) (type : Plain) (held : List Held) (bs : List Bracket) (values : List ℕ) → In home (instances p) → (at : IsStored p (kept p silent written) home x type bs) → is_array type ≡ false
      → AreBrackets p held bs → AreIndexes p bs (reverse values) → IsCounted home x at.root held values
  counted home x type held bs values i at flat are indexes =
      let pairs : AllZip (IsBracket p) (reverse held) bs = subst (AllZip (IsBracket p) (reverse held)) (reverse-reverse bs) (pairs_reverse (IsBracket p) held (reverse bs) are) in
      let w : IsWrittenType at.root = subst IsWrittenEntity at.entity (entry_written p (kept p silent written) home i at.entry at.listed).entity in
      let stands : slice_get (element_names at.root (spelled home x)) (offset (reverse held) (reverse values)) ≡ Some (element_name (spelled home x) (reverse values)) =
      ap (slice_get (element_names at.root (spelled home x))) (sym (one_each type flat (offset (reverse held) (reverse values))))
      ∙ offset_at p at.root type (spelled home x) (element_name (spelled home x) (reverse values)) (reverse held) bs (reverse values) 0 at.peeled indexes pairs (one_name type (element_name (spelled home x) (reverse values)) flat) in
      let here : slice_get (element_names at.root (spelled home at.entry.name)) (offset (reverse held) (reverse values)) ≡ Some (element_name (spelled home x) (reverse values)) =
      subst (λ y. slice_get (element_names at.root (spelled home y)) (offset (reverse held) (reverse values)) ≡ Some (element_name (spelled home x) (reverse values))) (sym at.named) stands in
      let found = element_place home at.entry at.root (offset (reverse held) (reverse values)) (element_name (spelled home x) (reverse values)) i at.listed at.entity here in
      let count : length (variable_names p) ≡ length (variables p) = length_map (λ (v : Variable). v.name) (variables p) in
      record {
        within = subst (λ hs. AllZip IsWithin hs values) (reverse-reverse held) (subst (AllZip IsWithin (reverse (reverse held))) (reverse-reverse values) (pairs_reverse IsWithin (reverse held) (reverse values) (all_within p at.root type (reverse held) bs (reverse values) at.peeled w indexes pairs)));
        place = found.0 ∙ ap (λ y. place_of (variable_names p) (first_element at.root (spelled home y)) + offset (reverse held) (reverse values)) at.named;
        few = omega (arith, found.1, count, few_variables p silent written);
      }
    where
      one_each : (t : Plain) → is_array t ≡ false → (k : ℕ) → k * variable_count t + 0 ≡ k
      one_each Plain.Boolean one k = omega arith
      one_each (Plain.Enumeration constants) one k = omega arith
      one_each (Plain.Range low high) one k = omega arith
      one_each (Plain.Array low high element) one k = cc

  -- what a variable with values of its indexes, the first one first, says
  pub record IsCell (s : Scope) (q : Path) (home : ℕ) (x : Name) (held : List Held) (values : List ℕ) : Type 0 where
    pub scope : Scope
    pub placed : scope_at p home ≡ Some scope
    pub root : Plain
    pub declared : entity_in (module_of scope) x ≡ Some (Entity.Stored root)
    pub counted : IsCounted scope x root held values
    pub selects : Selects p s q (place_of (variable_names p) (element_name (spelled scope x) (reverse values)))

  pub cell_at : (s : Scope) (q : Path) (home : ℕ) (x : Name) (type : Plain) (held : List Held) (at : IsStoredAt p s q home x type held) (values : List ℕ) → In s (instances p) → is_array type ≡ false → AreIndexes p at.brackets (reverse values)
      → IsCell s q home x held values
  cell_at s q home x type held at values i flat indexes =
      let g = good_target p (kept p silent written) at.denotes i in
      record { scope = at.scope; placed = at.placed; root = g.1.root; declared = g.1.declared; counted = counted at.scope x type held at.brackets values g.0 g.1 flat at.are indexes; selects = Selects.cell at.denotes flat indexes }
