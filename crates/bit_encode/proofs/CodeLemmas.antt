-- The bits of a state and of each variable, and the state that valid bits have.
use Rattle.std.proofs.Common.{◌≡◌, ◌⊎◌, inl, inr, ℕ, zero, suc, ◌+◌, ◌<◌, ◌≤◌, Bool, false, List, [], ◌∷◌, ◌++◌, length, get_or, take, drop, map, Contains, pos, refl, sym, ◌∙◌, ap, subst, arith}
use Rattle.std.specs.Prelude.{sum_by, AllPairs, ◌≢◌}
use Rattle.std.specs.List.{flat_map, range_with_len}
use Rattle.std.proofs.lemmas.List.{append-nil, get_or-take, take-append-drop, drop_more, take_more, take_at, drop_at, drop-take, take-take, take_all, length-take-le, length-drop, get_or_default, ext_get_or}
use Rattle.std.proofs.lemmas.List.Concat.{flat_map-append, length-flat_map}
use Rattle.std.proofs.lemmas.List.FromFn.{length-map-range_with_len, get_or-map-range_with_len}
use Rattle.std.proofs.lemmas.List.Sums.{sum_by_more, sum_by_more_le, sum_by-le-sum_by, position_or_len_is, passes_at_first, fails_before_first}
use Rattle.std.proofs.lemmas.Bool.{cases_lt, cases_order, false_from_ne_true, false≢true}
use Rattle.kripke_model.specs.declared.expressions.Value.{Value}
use Rattle.kripke_model.specs.declared.expressions.Value.TheVariants.{Number}
use Rattle.kripke_model.specs.System.{State, value_in}
use Rattle.kripke_model.specs.Evaluation.{same}
use Rattle.kripke_model.proofs.ValueLemmas.{same-true, same_self}
use Rattle.bit_encode.specs.Binary.{number, binary, width}
use Rattle.bit_encode.specs.Code.{Coding, IsOrder, AllDistinct, IsStateOf, IsValid, IsUsed, HasBit, values_of, width_of, place, value_code, code, first_bit, bit_place, field, bit_count}
use Rattle.bit_encode.proofs.BinaryLemmas.{length-binary, number-binary, binary-number, width-enough}
use Rattle.bit_encode.proofs.OrderLemmas.{sum_order, sum_places, named_at, before_place}

-- ---- places of values

place_in_cases : (values : List Value) (v : Value) → Contains values v → (place values v < length values) ⊎ (length values ≤ place values v) → place values v < length values
place_in_cases values v h (inl less) = less
place_in_cases values v h (inr none) =
    let fails : same v (get_or values h.0 v) ≡ false = fails_before_first (same v) values h.0 v (omega (arith, h.1)) in
    absurd (false≢true (sym fails ∙ ap (same v) h.2 ∙ same_self v))

pub place-lt : (values : List Value) (v : Value) → Contains values v → place values v < length values
place-lt values v h = place_in_cases values v h (cases_lt (place values v) (length values))

pub value_at_place : (values : List Value) (v d : Value) → Contains values v → get_or values (place values v) d ≡ v
value_at_place values v d h = sym (same-true v (get_or values (place values v) d) (passes_at_first (same v) values d (place-lt values v h)))

pub place_of_value : (values : List Value) (k : ℕ) (d : Value) → AllPairs (λ v w. v ≢ w) values → k < length values → place values (get_or values k d) ≡ k
place_of_value values k d distinct l =
    let v : Value = get_or values k d in
    position_or_len_is (same v) values k d (omega arith)
    (λ j less. false_from_ne_true (same v (get_or values j d)) (λ e. distinct j k d less l (sym (same-true v (get_or values j d) e))))
    (λ here. same_self v)

-- a place where the value stands and before which it does not
pub place_is : (values : List Value) (v : Value) (i : ℕ) → i < length values → ((k : ℕ) (d : Value) → k < i → get_or values k d ≡ v → ⊥) → ((d : Value) → get_or values i d ≡ v) → i ≡ place values v
place_is values v i l before here =
    sym (position_or_len_is (same v) values i v (omega arith)
    (λ k less. false_from_ne_true (same v (get_or values k v)) (λ e. before k v less (sym (same-true v (get_or values k v) e))))
    (λ _. ap (same v) (here v) ∙ same_self v))

pub contains_at : (values : List Value) (k : ℕ) (d : Value) → k < length values → Contains values (get_or values k d)
contains_at values k d l = (k, l, get_or_default values k (get_or values k d) d l)

-- ---- lists made of pieces

split_at : {X : Type 0} (xs : List X) (k : ℕ) (d : X) → k < length xs → xs ≡ take k xs ++ get_or xs k d ∷ drop (k + 1) xs
split_at xs k d l = sym (take-append-drop k xs) ∙ ap (λ ys. take k xs ++ ys) (drop_more xs k d l)

take-add : {X : Type 0} (a b : ℕ) (xs : List X) → take (a + b) xs ≡ take a xs ++ take b (drop a xs)
take-add a b xs =
    sym (take-append-drop a (take (a + b) xs))
    ∙ ap (λ ys. ys ++ drop a (take (a + b) xs)) (take-take a (a + b) xs (omega arith))
    ∙ ap (λ ys. take a xs ++ ys) (drop-take a b xs)

sum_by-same : (f g : ℕ → ℕ) (xs : List ℕ) → ((x : ℕ) → f x ≡ g x) → sum_by f xs ≡ sum_by g xs
sum_by-same f g xs h =
    let below : sum_by f xs ≤ sum_by g xs = sum_by-le-sum_by f g xs (λ x. omega (arith, h x)) in
    let above : sum_by g xs ≤ sum_by f xs = sum_by-le-sum_by g f xs (λ x. omega (arith, h x)) in
    omega arith

flat_map-take : (F : ℕ → List Bool) (xs : List ℕ) (k : ℕ) → k < length xs → flat_map F (take (k + 1) xs) ≡ flat_map F (take k xs) ++ F (get_or xs k 0)
flat_map-take F xs k l =
    ap (flat_map F) (take_more xs k 0 l) ∙ flat_map-append F (take k xs) (get_or xs k 0 ∷ []) ∙ ap (λ ys. flat_map F (take k xs) ++ ys) (append-nil (F (get_or xs k 0)))

-- the piece of the k-th member stands behind the pieces before it
piece_at : (F : ℕ → List Bool) (W : ℕ → ℕ) (xs : List ℕ) (k : ℕ) → ((x : ℕ) → length (F x) ≡ W x) → k < length xs → take (W (get_or xs k 0)) (drop (sum_by W (take k xs)) (flat_map F xs)) ≡ F (get_or xs k 0)
piece_at F W xs k long l =
    let x : ℕ = get_or xs k 0 in
    let rest : List Bool = flat_map F (drop (k + 1) xs) in
    let parts : flat_map F xs ≡ flat_map F (take k xs) ++ (F x ++ rest) = ap (flat_map F) (split_at xs k 0 l) ∙ flat_map-append F (take k xs) (x ∷ drop (k + 1) xs) in
    let before : length (flat_map F (take k xs)) ≡ sum_by W (take k xs) = length-flat_map F (take k xs) ∙ sum_by-same (λ y. length (F y)) W (take k xs) long in
    ap (λ bits. take (W x) (drop (sum_by W (take k xs)) bits)) parts
    ∙ ap (take (W x)) (drop_at (flat_map F (take k xs)) (F x ++ rest) (sum_by W (take k xs)) before)
    ∙ take_at (F x) rest (W x) (long x)

flat_map-same : (F G : ℕ → List Bool) (xs : List ℕ) → ((k : ℕ) → k < length xs → F (get_or xs k 0) ≡ G (get_or xs k 0)) → flat_map F xs ≡ flat_map G xs
flat_map-same F G [] h = refl
flat_map-same F G (x ∷ xs) h =
    ap (λ ys. ys ++ flat_map F xs) (h 0 (omega arith)) ∙ ap (λ ys. G x ++ ys) (flat_map-same F G xs (λ k l. h (suc k) (omega arith)))

-- ---- the bits of a coding

module _ (c : Coding) (ordered : IsOrder (length c.types) c.order) where
  pub bits_in_order : sum_by (width_of c.types) c.order ≡ bit_count c.types
  bits_in_order = sum_order (width_of c.types) (length c.types) c.order ordered ∙ sum_places (λ values. width (length values)) c.types []

  pub first_at : (k : ℕ) → k < length c.order → first_bit c (get_or c.order k 0) ≡ sum_by (width_of c.types) (take k c.order)
  first_at k l = ap (sum_by (width_of c.types)) (before_place (length c.types) c.order k ordered l)

  -- a fact of each named number is one of each variable
  of_each : (P : ℕ → Type 0) → ((k : ℕ) → k < length c.order → P (get_or c.order k 0)) → (x : ℕ) → x < length c.types → P x
  of_each P h x l = let w = named_at (length c.types) c.order x ordered l in subst P w.2 (h w.0 w.1)

  pub field_within : (x : ℕ) → x < length c.types → first_bit c x + width_of c.types x ≤ bit_count c.types
  field_within = of_each (λ x. first_bit c x + width_of c.types x ≤ bit_count c.types)
      (λ k l. omega (arith, first_at k l, bits_in_order, sum_by_more_le (width_of c.types) c.order k 0 l))

  pub length-field : (bits : List Bool) (x : ℕ) → length bits ≡ bit_count c.types → x < length c.types → length (field c x bits) ≡ width_of c.types x
  length-field bits x long l =
      length-take-le (width_of c.types x) (drop (first_bit c x) bits) (omega (arith, length-drop (first_bit c x) bits, field_within x l))

  long_code : (s : State) (x : ℕ) → length (value_code c.types s x) ≡ width_of c.types x
  long_code s x = length-binary (width_of c.types x) (place (values_of c.types x) (value_in s x))

  pub length-code : (s : State) → length (code c s) ≡ bit_count c.types
  length-code s = length-flat_map (value_code c.types s) c.order ∙ sum_by-same (λ x. length (value_code c.types s x)) (width_of c.types) c.order (long_code s) ∙ bits_in_order

  pub field-code : (s : State) (x : ℕ) → x < length c.types → field c x (code c s) ≡ value_code c.types s x
  field-code s = of_each (λ x. field c x (code c s) ≡ value_code c.types s x)
      (λ k l. ap (λ n. take (width_of c.types (get_or c.order k 0)) (drop n (code c s))) (first_at k l)
      ∙ piece_at (value_code c.types s) (width_of c.types) c.order k (long_code s) l)

  pub fields_spell : (s : State) (x : ℕ) → IsStateOf c.types s → x < length c.types → number (field c x (code c s)) ≡ place (values_of c.types x) (value_in s x)
  fields_spell s x h l =
      let less : place (values_of c.types x) (value_in s x) < length (values_of c.types x) = place-lt (values_of c.types x) (value_in s x) (h.typed x l) in
      ap number (field-code s x l) ∙ number-binary (width_of c.types x) (place (values_of c.types x) (value_in s x)) (omega (arith, width-enough (length (values_of c.types x))))

  pub codes_valid : (s : State) → IsStateOf c.types s → IsValid c (code c s)
  codes_valid s h = record {
    long = length-code s;
    used = λ x l. subst (λ n. n < length (values_of c.types x)) (sym (fields_spell s x h l)) (place-lt (values_of c.types x) (value_in s x) (h.typed x l));
  }

  pub codes_differ : (s t : State) → IsStateOf c.types s → IsStateOf c.types t → code c s ≡ code c t → s ≡ t
  codes_differ s t hs ht e = ext_get_or (Number (pos 0)) s t (hs.each ∙ sym ht.each) (λ x l. same_value x (omega (arith, hs.each)))
    where
      same_value : (x : ℕ) → x < length c.types → value_in s x ≡ value_in t x
      same_value x l =
          let values : List Value = values_of c.types x in
          let places : place values (value_in s x) ≡ place values (value_in t x) = sym (fields_spell s x hs l) ∙ ap (λ bits. number (field c x bits)) e ∙ fields_spell t x ht l in
          sym (value_at_place values (value_in s x) (Number (pos 0)) (hs.typed x l)) ∙ ap (λ k. get_or values k (Number (pos 0))) places ∙ value_at_place values (value_in t x) (Number (pos 0)) (ht.typed x l)

  -- the bits of the variables, in order, are all bits
  fields_up_to : (bits : List Bool) (k : ℕ) → k ≤ length c.order → flat_map (λ x. field c x bits) (take k c.order) ≡ take (sum_by (width_of c.types) (take k c.order)) bits
  fields_up_to bits zero h = refl
  fields_up_to bits (suc k) h =
      let l : k < length c.order = omega arith in
      let F : ℕ → List Bool = λ x. field c x bits in
      let n : ℕ = sum_by (width_of c.types) (take k c.order) in
      let w : ℕ = width_of c.types (get_or c.order k 0) in
      let next : suc k ≡ k + 1 = omega arith in
      ap (λ i. flat_map F (take i c.order)) next ∙ flat_map-take F c.order k l
      ∙ ap (λ ys. ys ++ F (get_or c.order k 0)) (fields_up_to bits k (omega arith))
      ∙ ap (λ i. take n bits ++ take w (drop i bits)) (first_at k l)
      ∙ sym (take-add n w bits)
      ∙ ap (λ i. take i bits) (sym (sum_by_more (width_of c.types) c.order k 0 l))
      ∙ ap (λ i. take (sum_by (width_of c.types) (take i c.order)) bits) (sym next)

  fields_join : (bits : List Bool) → length bits ≡ bit_count c.types → flat_map (λ x. field c x bits) c.order ≡ bits
  fields_join bits long =
      ap (flat_map (λ x. field c x bits)) (sym (take_all (length c.order) c.order (omega arith)))
      ∙ fields_up_to bits (length c.order) (omega arith)
      ∙ ap (λ xs. take (sum_by (width_of c.types) xs) bits) (take_all (length c.order) c.order (omega arith))
      ∙ take_all (sum_by (width_of c.types) c.order) bits (omega (arith, bits_in_order))

  -- the state that has, for each variable, the value whose place its bits spell
  pub record IsDecoded (bits : List Bool) (s : State) : Type 0 where
    pub each : length s ≡ length c.types
    pub used : (x : ℕ) → x < length c.types → IsUsed c bits x
    pub reads : (x : ℕ) → x < length c.types → value_in s x ≡ get_or (values_of c.types x) (number (field c x bits)) (Number (pos 0))

  pub decoded_state : (bits : List Bool) (s : State) → IsDecoded bits s → IsStateOf c.types s
  decoded_state bits s h = record {
    each = h.each;
    typed = λ x l. subst (Contains (values_of c.types x)) (sym (h.reads x l)) (contains_at (values_of c.types x) (number (field c x bits)) (Number (pos 0)) (h.used x l));
  }

  pub decoded_code : AllDistinct c.types → (bits : List Bool) (s : State) → length bits ≡ bit_count c.types → IsDecoded bits s → code c s ≡ bits
  decoded_code distinct bits s long h =
      flat_map-same (value_code c.types s) (λ x. field c x bits) c.order (λ k l. here (get_or c.order k 0) (ordered.known k 0 l)) ∙ fields_join bits long
    where
      here : (x : ℕ) → x < length c.types → value_code c.types s x ≡ field c x bits
      here x l =
          let values : List Value = values_of c.types x in
          let n : ℕ = number (field c x bits) in
          let placed : place values (value_in s x) ≡ n = ap (place values) (h.reads x l) ∙ place_of_value values n (Number (pos 0)) (distinct x [] l) (h.used x l) in
          ap (binary (width_of c.types x)) placed ∙ ap (λ w. binary w n) (sym (length-field bits x long l)) ∙ binary-number (field c x bits)

  pub valid_are_codes : AllDistinct c.types → (bits : List Bool) → IsValid c bits → (s : State) × IsStateOf c.types s × (code c s ≡ bits)
  valid_are_codes distinct bits h =
      let f : ℕ → Value = λ x. get_or (values_of c.types x) (number (field c x bits)) (Number (pos 0)) in
      let s : State = map f (range_with_len 0 (length c.types)) in
      let d : IsDecoded bits s = record {
        each = length-map-range_with_len f 0 (length c.types);
        used = h.used;
        reads = λ x l. get_or-map-range_with_len f 0 (length c.types) x x (Number (pos 0)) l (omega arith);
      } in
      (s, decoded_state bits s d, decoded_code distinct bits s h.long d)

  pub places_within : (x b : ℕ) → HasBit c x b → bit_place c x b < bit_count c.types
  places_within x b h = omega (arith, field_within x h.known, h.within)

  -- the bits of the number at place j end before those of the number at a later place k begin
  ends_before : (j k : ℕ) → j < k → k < length c.order → first_bit c (get_or c.order j 0) + width_of c.types (get_or c.order j 0) ≤ first_bit c (get_or c.order k 0)
  ends_before j k less l =
      let early : sum_by (width_of c.types) (take j (take k c.order)) + width_of c.types (get_or (take k c.order) j 0) ≤ sum_by (width_of c.types) (take k c.order) = sum_by_more_le (width_of c.types) (take k c.order) j 0 (omega (arith, length-take-le k c.order (omega arith))) in
      let same_take : sum_by (width_of c.types) (take j (take k c.order)) ≡ sum_by (width_of c.types) (take j c.order) = ap (sum_by (width_of c.types)) (take-take j k c.order (omega arith)) in
      let same_width : width_of c.types (get_or (take k c.order) j 0) ≡ width_of c.types (get_or c.order j 0) = ap (width_of c.types) (get_or-take k c.order j 0 less) in
      omega (arith, first_at j (omega arith), first_at k l)

  pub places_differ : (x b y d : ℕ) → HasBit c x b → HasBit c y d → bit_place c x b ≡ bit_place c y d → (x ≡ y) × (b ≡ d)
  places_differ x b y d hx hy e = by (cases_order j.0 k.0)
    where
      j : (i : ℕ) × (i < length c.order) × (get_or c.order i 0 ≡ x)
      j = named_at (length c.types) c.order x ordered hx.known

      k : (i : ℕ) × (i < length c.order) × (get_or c.order i 0 ≡ y)
      k = named_at (length c.types) c.order y ordered hy.known

      by : (j.0 ≡ k.0) ⊎ ((j.0 < k.0) ⊎ (k.0 < j.0)) → (x ≡ y) × (b ≡ d)
      by (inl same_place) =
          let one : x ≡ y = sym j.2 ∙ ap (λ i. get_or c.order i 0) same_place ∙ k.2 in
          (one, omega (arith, ap (first_bit c) one))
      by (inr (inl less)) =
          let apart : first_bit c x + width_of c.types x ≤ first_bit c y = subst (λ z. first_bit c z + width_of c.types z ≤ first_bit c y) j.2 (subst (λ z. first_bit c (get_or c.order j.0 0) + width_of c.types (get_or c.order j.0 0) ≤ first_bit c z) k.2 (ends_before j.0 k.0 less k.1)) in
          absurd (omega (arith, hx.within))
      by (inr (inr more)) =
          let apart : first_bit c y + width_of c.types y ≤ first_bit c x = subst (λ z. first_bit c z + width_of c.types z ≤ first_bit c x) k.2 (subst (λ z. first_bit c (get_or c.order k.0 0) + width_of c.types (get_or c.order k.0 0) ≤ first_bit c z) j.2 (ends_before k.0 j.0 more j.1)) in
          absurd (omega (arith, hy.within))
