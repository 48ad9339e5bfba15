-- How many symbols a program has that is not refused.
use Rattle.std.proofs.Common.{◌≡◌, refl, sym, ◌∙◌, ap, subst, ℕ, zero, suc, ◌<◌, ◌≤◌, ◌+◌, ◌-◌, ◌*◌, arith, List, [], ◌∷◌, ◌++◌, length, get_or, true, false, Some, ◌⊎◌, inl, inr}
use Rattle.std.specs.Prelude.{map, flat_map, ltb, ◌||◌}
use Rattle.std.proofs.lemmas.List.{length-append}
use Rattle.std.proofs.lemmas.Bool.{ltb-false, false_from_ne_true, or_parts, false≢true}
use Rattle.kripke_model.specs.declared.expressions.Value.{Value}
use Rattle.kripke_model.specs.declared.expressions.Value.TheVariants.{Number, Symbol}
use Rattle.smv_instances.specs.Program.{Name, Constant, Plain}
use Rattle.smv_instances.specs.Entries.{Entity, Entry}
use Rattle.smv_instances.specs.Instances.{atom, atoms_in, atoms_of, distinct_names, place_of, value_of, type_values}
use Rattle.smv_instances.specs.Declarations.{is_reversed, variable_count, entry_variable_count, value_count}
use Rattle.smv_instantiate.proofs.Members.{In, in_map, in_map_back, in_flat, in_filter_map_back, Distinct, distinct_map}
use Rattle.smv_instantiate.proofs.TypeLemmas.{HasAtom, constants_of, type_count, distinct_names_distinct, in_distinct_names, in_distinct_names_back, place_finds, length_map, in_distinct, atom_in_type}
use Rattle.smv_instantiate.proofs.CountLemmas.{total}

-- ---- a list without a member twice is no longer than one that has all its members

-- the list without one member
record Without {A : Type 0} (x : A) (ys : List A) : Type 0 where
  rest : List A
  shorter : length ys ≡ suc (length rest)
  others : (y : A) → In y ys → (y ≡ x) ⊎ In y rest

without : {A : Type 0} {x : A} (ys : List A) → In x ys → Without x ys
without [] i = elim i [ ]
without {A} {x} (y ∷ ys) In.first = record { rest = ys; shorter = refl; others = λ z i. by z i }
  where
    by : (z : A) → In z (y ∷ ys) → (z ≡ y) ⊎ In z ys
    by z In.first = inl refl
    by z (In.later i) = inr i
without {A} {x} (y ∷ ys) (In.later i) = by (without ys i)
  where
    others_or : (w : Without x ys) (z : A) → In z (y ∷ ys) → (z ≡ x) ⊎ In z (y ∷ w.rest)
    others_or w z In.first = inr In.first
    others_or w z (In.later j) = elim (w.others z j) [ inl e ↦ inl e | inr k ↦ inr (In.later k) ]

    by : Without x ys → Without x (y ∷ ys)
    by w = record { rest = y ∷ w.rest; shorter = ap suc w.shorter; others = λ z j. others_or w z j }

pub no_longer : {A : Type 0} (xs ys : List A) → Distinct xs → ((x : A) → In x xs → In x ys) → length xs ≤ length ys
no_longer [] ys h has = omega arith
no_longer {A} (x ∷ xs) ys h has =
    let w = without ys (has x In.first) in
    let rest : length xs ≤ length w.rest = no_longer xs w.rest h.1 (λ z i. by w z i (w.others z (has z (In.later i)))) in
    let one : length ys ≡ suc (length w.rest) = w.shorter in
    omega (arith, rest, one)
  where
    by : (w : Without x ys) (z : A) → In z xs → (z ≡ x) ⊎ In z w.rest → In z w.rest
    by w z i (inl same) = absurd (h.0 (subst (λ y. In y xs) same i))
    by w z i (inr there) = there

-- ---- the atoms of a type

symbol_number : Value → ℕ
symbol_number (Symbol c) = c
symbol_number (Number i) = 0

atom_is : (c : Constant) (x : Name) → atom c ≡ Some x → c ≡ Constant.Atom x
atom_is (Constant.Atom y) x e = ap Constant.Atom (some_name e)
  where
    some_name : Some y ≡ Some x → y ≡ x
    some_name f = cc
atom_is (Constant.Digits n) x e = absurd (cc)
atom_is (Constant.Truth b) x e = absurd (cc)

in_constants : (type : Plain) (x : Name) → In x (atoms_in type) → In (Constant.Atom x) (constants_of type)
in_constants Plain.Boolean x i = elim i [ ]
in_constants (Plain.Enumeration constants) x i = let b = in_filter_map_back atom constants i in subst (λ c. In c constants) (atom_is b.0 x b.2) b.1
in_constants (Plain.Range low high) x i = elim i [ ]
in_constants (Plain.Array low high element) x i = in_constants element x i

constant_value : (names : List Name) (type : Plain) (c : Constant) → In c (constants_of type) → In (value_of names c) (type_values names type)
constant_value names Plain.Boolean c i = elim i [ ]
constant_value names (Plain.Enumeration constants) c i = in_distinct (value_of names c) (map (value_of names) constants) (in_map (value_of names) constants i)
constant_value names (Plain.Range low high) c i = elim i [ ]
constant_value names (Plain.Array low high element) c i = constant_value names element c i

module _ (type : Plain) where
  abbrev own : List Name
  own = distinct_names (atoms_in type)

  abbrev symbol : Name → Value
  symbol x = Symbol (place_of own x)

  one_place : (x y : Name) → In x own → In y own → symbol x ≡ symbol y → x ≡ y
  unfolding symbol_number
  one_place x y i j e = sym (place_finds x own i) ∙ ap (λ k. get_or own k []) (ap symbol_number e) ∙ place_finds y own j

  own_atom_there : (c : Constant) → In c (constants_of type) → HasAtom own c
  own_atom_there (Constant.Atom x) i = in_distinct_names x (atoms_in type) (atom_in_type type x i)
  own_atom_there (Constant.Digits n) i = tt
  own_atom_there (Constant.Truth b) i = tt

  symbol_value : (v : Value) → In v (map symbol own) → In v (type_values own type)
  symbol_value v i =
      let b = in_map_back symbol own i in
      subst (λ w. In w (type_values own type)) (sym b.2) (constant_value own type (Constant.Atom b.0) (in_constants type b.0 (in_distinct_names_back b.0 (atoms_in type) b.1)))

  -- a type has no more atoms than values
  atoms_few : length own ≤ value_count type
  atoms_few =
      let count : length (type_values own type) ≡ value_count type = type_count own type own_atom_there in
      let same : length (map symbol own) ≡ length own = length_map symbol own in
      let few : length (map symbol own) ≤ length (type_values own type) = no_longer (map symbol own) (type_values own type) (distinct_map symbol own one_place (distinct_names_distinct (atoms_in type))) symbol_value in
      omega (arith, count, same, few)

some_variable : (type : Plain) → (is_reversed type ≡ true → ⊥) → 0 < variable_count type
some_variable Plain.Boolean fine = omega arith
some_variable (Plain.Enumeration constants) fine = omega arith
some_variable (Plain.Range low high) fine = omega arith
some_variable (Plain.Array low high element) fine =
    let parts : (ltb high low ≡ false) × (is_reversed element ≡ false) = or_parts (ltb high low) (is_reversed element) (false_from_ne_true (ltb high low || is_reversed element) fine) in
    let up : low ≤ high = ltb-false high low parts.0 in
    let rest : 0 < variable_count element = some_variable element (λ e. false≢true (sym parts.1 ∙ e)) in
    product (high + 1 - low) (variable_count element) (omega (arith, up)) rest
  where
    product : (a b : ℕ) → 0 < a → 0 < b → 0 < a * b
    product zero b h k = absurd (omega (arith, h))
    product (suc a) zero h k = absurd (omega (arith, k))
    product (suc a) (suc b) h k = grind arith

-- ---- all symbols

-- what a declaration is not refused for
abbrev pub IsKeptEntry : Entity → Type 0
IsKeptEntry (Entity.Stored type) = (is_reversed type ≡ true → ⊥) × (value_count type ≤ 1024)
IsKeptEntry Entity.Parameter = Unit {0}
IsKeptEntry (Entity.Instance process x actuals) = Unit {0}
IsKeptEntry (Entity.Defined body) = Unit {0}

abbrev own_atoms : Entry → List Name
own_atoms e = distinct_names (atoms_of e.entity)

entry_few : (entity : Entity) → IsKeptEntry entity → length (distinct_names (atoms_of entity)) ≤ 1024 * entry_variable_count entity
entry_few Entity.Parameter k = omega arith
entry_few (Entity.Instance process x actuals) k = omega arith
entry_few (Entity.Defined body) k = omega arith
entry_few (Entity.Stored type) k =
    let some : 0 < variable_count type = some_variable type k.0 in
    let few : length (distinct_names (atoms_in type)) ≤ value_count type = atoms_few type in
    let most : value_count type ≤ 1024 = k.1 in
    omega (arith, some, few, most)

atoms_total : (es : List Entry) → ((e : Entry) → In e es → IsKeptEntry e.entity) → length (flat_map own_atoms es) ≤ 1024 * total (λ e. entry_variable_count e.entity) es
atoms_total [] k = omega arith
atoms_total (e ∷ es) k =
    let rest : length (flat_map own_atoms es) ≤ 1024 * total (λ f. entry_variable_count f.entity) es = atoms_total es (λ f i. k f (In.later i)) in
    let here : length (own_atoms e) ≤ 1024 * entry_variable_count e.entity = entry_few e.entity (k e In.first) in
    let sum : length (own_atoms e ++ flat_map own_atoms es) ≡ length (own_atoms e) + length (flat_map own_atoms es) = length-append (own_atoms e) (flat_map own_atoms es) in
    omega (arith, rest, here, sum)

-- a list of names whose members are atoms of kept entries
pub symbols_few : (xs : List Name) (es : List Entry) → ((x : Name) → In x xs → (e : Entry) × In e es × In x (atoms_of e.entity)) → ((e : Entry) → In e es → IsKeptEntry e.entity)
    → length (distinct_names xs) ≤ 1024 * total (λ e. entry_variable_count e.entity) es
symbols_few xs es from k =
    let few : length (distinct_names xs) ≤ length (flat_map own_atoms es) = no_longer (distinct_names xs) (flat_map own_atoms es) (distinct_names_distinct xs)
    (λ x i. let r = from x (in_distinct_names_back x xs i) in in_flat own_atoms es r.1 (in_distinct_names x (atoms_of r.0.entity) r.2)) in
    let most : length (flat_map own_atoms es) ≤ 1024 * total (λ e. entry_variable_count e.entity) es = atoms_total es k in
    omega (arith, few, most)
