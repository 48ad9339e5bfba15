-- The values of a type: none twice, at least one, and as many whatever the symbols are numbered by.
use Rattle.std.proofs.Common.{◌≡◌, refl, sym, ◌∙◌, ap, subst, ℕ, zero, suc, ◌<◌, ◌+◌, ◌-◌, arith, List, [], ◌∷◌, length, get_or, Bool, true, false, cond}
use Rattle.std.specs.Prelude.{filter_map, map, filter, not, ◌||◌, ◌==◌, ℤ, pos, negsuc, ◌+ℤ◌, int_lt, ltb}
use Rattle.std.specs.Int.{int_gap}
use Rattle.std.specs.Str.{bytes_eq}
use Rattle.std.proofs.lemmas.Bool.{false≢true, eqb-true, eq-eqb, false_from_ne_true}
use Rattle.std.proofs.lemmas.Int.{ints}
use borrow.Author.Differences.{up, down}
use Rattle.kripke_model.specs.declared.expressions.Value.{Value}
use Rattle.kripke_model.specs.declared.expressions.Value.TheVariants.{Number}
use Rattle.kripke_model.specs.Evaluation.{same, distinct}
use Rattle.kripke_model.proofs.ValueLemmas.{same_self, same-true}
use Rattle.smv_instances.specs.Program.{Name, Constant, Plain}
use Rattle.smv_instances.specs.Instances.{place_of, rising, integer_count, value_of, type_values, distinct_names, atom, atoms_in}
use Rattle.smv_instances.specs.Declarations.{is_reversed, value_count}
use Rattle.smv_instantiate.specs.Written.{IsWrittenType}
use Rattle.smv_instantiate.proofs.Members.{In, Distinct, in_filter, in_filter_map, in_filter_back, distinct_filter, distinct_map}
use Rattle.smv_instantiate.proofs.NameLemmas.{bytes_same, names_same, rising_distinct}

-- ---- places of names

place_step : (b : Bool) (k n : ℕ) → (b ≡ false → k < n) → cond (not b) (1 + k) 0 < suc n
place_step true k n h = omega arith
place_step false k n h = let l : k < n = h refl in omega (arith, l)

pub place_below : (x : Name) (names : List Name) → In x names → place_of names x < length names
place_below x [] i = elim i [ ]
place_below x (y ∷ ys) In.first = place_step (bytes_eq x x) (place_of ys x) (length ys) (λ e. absurd (false≢true (sym e ∙ bytes_same x)))
place_below x (y ∷ ys) (In.later i) = place_step (bytes_eq x y) (place_of ys x) (length ys) (λ e. place_below x ys i)

found_step : (x y : Name) (ys : List Name) (k : ℕ) (b : Bool) → bytes_eq x y ≡ b → (b ≡ false → get_or ys k [] ≡ x) → get_or (y ∷ ys) (cond (not b) (1 + k) 0) [] ≡ x
found_step x y ys k true e h = sym (names_same x y e)
found_step x y ys k false e h = ap (λ j. get_or (y ∷ ys) j []) one_more ∙ h refl
  where
    one_more : 1 + k ≡ suc k
    one_more = omega arith

pub place_finds : (x : Name) (names : List Name) → In x names → get_or names (place_of names x) [] ≡ x
place_finds x [] i = elim i [ ]
place_finds x (y ∷ ys) In.first = found_step x x ys (place_of ys x) (bytes_eq x x) refl (λ e. absurd (false≢true (sym e ∙ bytes_same x)))
place_finds x (y ∷ ys) (In.later i) = found_step x y ys (place_of ys x) (bytes_eq x y) refl (λ e. place_finds x ys i)

-- places tell names apart as their bytes do
places_agree : (names : List Name) (x y : Name) → In x names → In y names → (place_of names x == place_of names y) ≡ bytes_eq x y
places_agree names x y i j = by (bytes_eq x y) refl
  where
    by : (b : Bool) → bytes_eq x y ≡ b → (place_of names x == place_of names y) ≡ b
    by true e = eq-eqb _ _ (ap (place_of names) (names_same x y e))
    by false e = false_from_ne_true _ (λ f. false≢true (sym e ∙ ap (bytes_eq x) (sym (sym (place_finds x names i) ∙ ap (λ k. get_or names k []) (eqb-true _ _ f) ∙ place_finds y names j)) ∙ bytes_same x))

pub distinct_names_distinct : (xs : List Name) → Distinct (distinct_names xs)
distinct_names_distinct [] = tt
distinct_names_distinct (x ∷ xs) = (
  λ i. let r = in_filter_back (λ y. not (bytes_eq x y)) (distinct_names xs) i in false≢true (ap not (sym (bytes_same x)) ∙ r.1),
  distinct_filter (λ y. not (bytes_eq x y)) (distinct_names xs) (distinct_names_distinct xs),
)

kept_name : (x y : Name) (ys : List Name) (b : Bool) → bytes_eq y x ≡ b → In x ys → In x (y ∷ filter (λ z. not (bytes_eq y z)) ys)
kept_name x y ys true e i = subst (λ z. In x (z ∷ filter (λ w. not (bytes_eq y w)) ys)) (sym (names_same y x e)) In.first
kept_name x y ys false e i = In.later (in_filter (λ z. not (bytes_eq y z)) ys i (ap not e))

pub in_distinct_names : (x : Name) (xs : List Name) → In x xs → In x (distinct_names xs)
in_distinct_names x [] i = i
in_distinct_names x (y ∷ ys) In.first = In.first
in_distinct_names x (y ∷ ys) (In.later i) = kept_name x y (distinct_names ys) (bytes_eq y x) refl (in_distinct_names x ys i)

pub in_distinct_names_back : (x : Name) (xs : List Name) → In x (distinct_names xs) → In x xs
in_distinct_names_back x [] i = i
in_distinct_names_back x (y ∷ ys) In.first = In.first
in_distinct_names_back x (y ∷ ys) (In.later i) = In.later (in_distinct_names_back x ys (in_filter_back (λ z. not (bytes_eq y z)) (distinct_names ys) i).0)

-- ---- values

distinct_value : (v : Value) (vs : List Value) → In v (filter (λ w. not (same v w)) vs) → ⊥
distinct_value v vs i = let r = in_filter_back (λ w. not (same v w)) vs i in false≢true (ap not (sym (same_self v)) ∙ r.1)

pub values_distinct : (vs : List Value) → Distinct (distinct vs)
values_distinct [] = tt
values_distinct (v ∷ vs) = (distinct_value v (distinct vs), distinct_filter (λ w. not (same v w)) (distinct vs) (values_distinct vs))

number_in : Value → ℤ
number_in (Number z) = z
number_in v = pos 0

mapped_distinct : (f : ℕ → ℤ) → ((j k : ℕ) → f j ≡ f k → j ≡ k) → (low n : ℕ) → Distinct (map (λ k. Number (f k)) (rising low n))
unfolding number_in
mapped_distinct f apart low n = distinct_map (λ k. Number (f k)) (rising low n) (λ x y i j e. apart x y (ap number_in e)) (rising_distinct low n)

pub numbers_distinct : (low n : ℕ) → Distinct (map (λ k. Number (pos k)) (rising low n))
numbers_distinct low n = mapped_distinct pos (λ j k e. pos_apart e) low n
  where
    pos_apart : {j k : ℕ} → pos j ≡ pos k → j ≡ k
    pos_apart e = cc

-- ---- integers that rise

gap_is : (a b : ℤ) → int_gap a b ≡ (up b + down a) - (up a + down b)
gap_is (pos a) (pos b) = omega arith
gap_is (pos a) (negsuc b) = omega arith
gap_is (negsuc a) (pos b) = omega arith
gap_is (negsuc a) (negsuc b) = omega arith

some_integer : (low high : ℤ) → int_lt high low ≡ false → 0 < integer_count low high
some_integer low high h = omega (arith, ints, h, gap_is low (high +ℤ pos 1))

integers_apart : (low : ℤ) (j k : ℕ) → low +ℤ pos j ≡ low +ℤ pos k → j ≡ k
integers_apart low j k e = omega (arith, ints, e)

pub type_distinct : (names : List Name) (type : Plain) → Distinct (type_values names type)
type_distinct names Plain.Boolean = numbers_distinct 0 2
type_distinct names (Plain.Enumeration constants) = values_distinct (map (value_of names) constants)
type_distinct names (Plain.Range low high) = mapped_distinct (λ k. low +ℤ pos k) (integers_apart low) 0 (integer_count low high)
type_distinct names (Plain.Array low high element) = type_distinct names element

pub length_rising : (low n : ℕ) → length (rising low n) ≡ n
length_rising low zero = refl
length_rising low (suc n) = ap suc (length_rising (low + 1) n)

pub length_map : {A B : Type 0} (f : A → B) (xs : List A) → length (map f xs) ≡ length xs
length_map f [] = refl
length_map f (x ∷ xs) = ap suc (length_map f xs)

pub rising_at : {A : Type 0} (f : ℕ → A) (low n k : ℕ) (d : A) → k < n → get_or (map f (rising low n)) k d ≡ f (low + k)
rising_at f low zero k d below = absurd (omega arith)
rising_at f low (suc n) zero d below = ap f (omega arith)
rising_at f low (suc n) (suc k) d below = rising_at f (low + 1) n k d (omega arith) ∙ ap f (omega arith)

-- ---- how many

-- each member once, by the test
distinct_by : {A : Type 0} → (A → A → Bool) → List A → List A
distinct_by t [] = []
distinct_by t (x ∷ xs) = x ∷ filter (λ y. not (t x y)) (distinct_by t xs)

filter_map_by : {A B : Type 0} (f : A → B) (q : B → Bool) (x : A) (xs : List A) (b : Bool) → filter q (map f xs) ≡ map f (filter (λ y. q (f y)) xs)
    → cond b (f x ∷ filter q (map f xs)) (filter q (map f xs)) ≡ map f (cond b (x ∷ filter (λ y. q (f y)) xs) (filter (λ y. q (f y)) xs))
filter_map_by f q x xs true e = ap (λ zs. f x ∷ zs) e
filter_map_by f q x xs false e = e

filter-mapped : {A B : Type 0} (f : A → B) (q : B → Bool) (xs : List A) → filter q (map f xs) ≡ map f (filter (λ y. q (f y)) xs)
filter-mapped f q [] = refl
filter-mapped f q (x ∷ xs) = filter_map_by f q x xs (q (f x)) (filter-mapped f q xs)

distinct-mapped : {A : Type 0} (f : A → Value) (xs : List A) → distinct (map f xs) ≡ map f (distinct_by (λ x y. same (f x) (f y)) xs)
unfolding distinct_by
distinct-mapped f [] = refl
distinct-mapped f (x ∷ xs) = ap (λ vs. f x ∷ filter (λ w. not (same (f x) w)) vs) (distinct-mapped f xs) ∙ ap (λ vs. f x ∷ vs) (filter-mapped f (λ w. not (same (f x) w)) (distinct_by (λ y z. same (f y) (f z)) xs))

in_distinct_by : {A : Type 0} (t : A → A → Bool) {y : A} (xs : List A) → In y (distinct_by t xs) → In y xs
unfolding distinct_by
in_distinct_by t [] i = i
in_distinct_by t (x ∷ xs) In.first = In.first
in_distinct_by t (x ∷ xs) (In.later i) = In.later (in_distinct_by t xs (in_filter_back (λ y. not (t x y)) (distinct_by t xs) i).0)

filter_same_by : {A : Type 0} (q r : A → Bool) (x : A) (xs : List A) → q x ≡ r x → filter q xs ≡ filter r xs → filter q (x ∷ xs) ≡ filter r (x ∷ xs)
filter_same_by q r x xs e rest = ap (λ b. cond b (x ∷ filter q xs) (filter q xs)) e ∙ ap (λ zs. cond (r x) (x ∷ zs) zs) rest

filter_same : {A : Type 0} (q r : A → Bool) (xs : List A) → ((x : A) → In x xs → q x ≡ r x) → filter q xs ≡ filter r xs
filter_same q r [] e = refl
filter_same q r (x ∷ xs) e = filter_same_by q r x xs (e x In.first) (filter_same q r xs (λ y i. e y (In.later i)))

distinct_by_same : {A : Type 0} (t u : A → A → Bool) (xs : List A) → ((x y : A) → In x xs → In y xs → t x y ≡ u x y) → distinct_by t xs ≡ distinct_by u xs
unfolding distinct_by
distinct_by_same t u [] e = refl
distinct_by_same t u (x ∷ xs) e =
    ap (λ zs. x ∷ zs) (filter_same (λ y. not (t x y)) (λ y. not (u x y)) (distinct_by t xs) (λ y i. ap not (e x y In.first (In.later (in_distinct_by t xs i))))
    ∙ ap (filter (λ y. not (u x y))) (distinct_by_same t u xs (λ y z i j. e y z (In.later i) (In.later j))))

-- the names have the constant, if it is an atom
abbrev pub HasAtom : List Name → Constant → Type 0
HasAtom names (Constant.Atom x) = In x names
HasAtom names (Constant.Digits n) = Unit {0}
HasAtom names (Constant.Truth b) = Unit {0}

values_agree : (names others : List Name) (c d : Constant) → HasAtom names c → HasAtom others c → HasAtom names d → HasAtom others d → same (value_of names c) (value_of names d) ≡ same (value_of others c) (value_of others d)
values_agree names others (Constant.Atom x) (Constant.Atom y) i j k l = places_agree names x y i k ∙ sym (places_agree others x y j l)
values_agree names others (Constant.Atom x) (Constant.Digits n) i j k l = refl
values_agree names others (Constant.Atom x) (Constant.Truth true) i j k l = refl
values_agree names others (Constant.Atom x) (Constant.Truth false) i j k l = refl
values_agree names others (Constant.Digits n) (Constant.Atom x) i j k l = refl
values_agree names others (Constant.Digits n) (Constant.Digits m) i j k l = refl
values_agree names others (Constant.Digits n) (Constant.Truth b) i j k l = refl
values_agree names others (Constant.Truth true) (Constant.Atom x) i j k l = refl
values_agree names others (Constant.Truth false) (Constant.Atom x) i j k l = refl
values_agree names others (Constant.Truth b) (Constant.Digits n) i j k l = refl
values_agree names others (Constant.Truth b) (Constant.Truth c) i j k l = refl

pub enumeration_count : (names others : List Name) (constants : List Constant) → ((c : Constant) → In c constants → HasAtom names c × HasAtom others c) → length (distinct (map (value_of names) constants)) ≡ length (distinct (map (value_of others) constants))
enumeration_count names others constants has =
    ap length (distinct-mapped (value_of names) constants)
    ∙ length_map (value_of names) (distinct_by (λ c d. same (value_of names c) (value_of names d)) constants)
    ∙ ap length (distinct_by_same (λ c d. same (value_of names c) (value_of names d)) (λ c d. same (value_of others c) (value_of others d)) constants
    (λ c d i j. values_agree names others c d (has c i).0 (has c i).1 (has d j).0 (has d j).1))
    ∙ sym (length_map (value_of others) (distinct_by (λ c d. same (value_of others c) (value_of others d)) constants))
    ∙ sym (ap length (distinct-mapped (value_of others) constants))

own_atom : (c : Constant) (constants : List Constant) → In c constants → HasAtom (filter_map atom constants) c
own_atom (Constant.Atom x) constants i = in_filter_map atom constants i refl
own_atom (Constant.Digits n) constants i = tt
own_atom (Constant.Truth b) constants i = tt

-- the constants of a type, or of an array's elements
abbrev pub constants_of : Plain → List Constant
constants_of Plain.Boolean = []
constants_of (Plain.Enumeration constants) = constants
constants_of (Plain.Range low high) = []
constants_of (Plain.Array low high element) = constants_of element

pub type_count : (names : List Name) (type : Plain) → ((c : Constant) → In c (constants_of type) → HasAtom names c) → length (type_values names type) ≡ value_count type
type_count names Plain.Boolean has = refl
type_count names (Plain.Enumeration constants) has = enumeration_count names (filter_map atom constants) constants (λ c i. (has c i, own_atom c constants i))
type_count names (Plain.Range low high) has = length_map (λ k. Number (low +ℤ pos k)) (rising 0 (integer_count low high)) ∙ length_rising 0 (integer_count low high)
type_count names (Plain.Array low high element) has = type_count names element has

pub some_value : (names : List Name) (type : Plain) → IsWrittenType type → (is_reversed type ≡ true → ⊥) → 0 < length (type_values names type)
some_value names Plain.Boolean w fine = omega arith
some_value names (Plain.Enumeration []) w fine = absurd (omega (arith, w.0))
some_value names (Plain.Enumeration (c ∷ cs)) w fine = omega arith
some_value names (Plain.Range low high) w fine =
    subst (λ n. 0 < n) (sym (type_count names (Plain.Range low high) (λ c i. elim i [ ]))) (some_integer low high (false_from_ne_true (int_lt high low) fine))
some_value names (Plain.Array low high element) w fine = some_value names element w.2 (λ e. fine (or_right_true (ltb high low) e))
  where
    or_right_true : (b : Bool) {c : Bool} → c ≡ true → (b || c) ≡ true
    or_right_true true e = refl
    or_right_true false e = e

kept_value : (v w : Value) (vs : List Value) (b : Bool) → same w v ≡ b → In v vs → In v (w ∷ filter (λ u. not (same w u)) vs)
kept_value v w vs true e i = subst (λ u. In u (w ∷ filter (λ z. not (same w z)) vs)) (same-true w v e) In.first
kept_value v w vs false e i = In.later (in_filter (λ u. not (same w u)) vs i (ap not e))

pub in_distinct : (v : Value) (vs : List Value) → In v vs → In v (distinct vs)
in_distinct v [] i = i
in_distinct v (w ∷ ws) In.first = In.first
in_distinct v (w ∷ ws) (In.later i) = kept_value v w (distinct ws) (same w v) refl (in_distinct v ws i)

pub atom_in_type : (type : Plain) (x : Name) → In (Constant.Atom x) (constants_of type) → In x (atoms_in type)
atom_in_type Plain.Boolean x i = elim i [ ]
atom_in_type (Plain.Enumeration constants) x i = in_filter_map atom constants i refl
atom_in_type (Plain.Range low high) x i = elim i [ ]
atom_in_type (Plain.Array low high element) x i = atom_in_type element x i
