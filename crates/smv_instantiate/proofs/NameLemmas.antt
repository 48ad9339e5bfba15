-- A flat name is split at its first dot or bracket, so names of different parts differ.
use Rattle.std.proofs.Common.{◌≡◌, refl, sym, ◌∙◌, ap, subst, ℕ, zero, suc, ◌<◌, ◌≤◌, ◌+◌, ◌-◌, ◌%◌, ◌^◌, arith, List, [], ◌∷◌, ◌++◌, Bool, true, false, ◌⊎◌, inl, inr, append_assoc, append-nil}
use Rattle.std.specs.Prelude.{decimal, ◌&&◌, ◌||◌, ◌==◌}
use Rattle.std.specs.Str.{bytes_eq}
use Rattle.std.proofs.lemmas.Bool.{false≢true, and_parts}
use Rattle.std.proofs.lemmas.List.{append_cancel_left}
use Rattle.std.proofs.lemmas.Fmt.{decimal_injective, decimal_by_steps}
use Rattle.std.proofs.lemmas.Slice.Eq.{bytes_eq-Decides}
use Rattle.kripke_model.specs.Names.{is_letter, is_name_byte, begins_name, is_tail, has_shape, IsAtom, dotted, bracketed, IsVariableName, IsProcessName}
use Rattle.smv_instances.specs.Program.{Name, Plain}
use Rattle.smv_instances.specs.Instances.{Scope, spelled, indexed, rising, between, element_names, selector_name}
use Rattle.smv_instantiate.specs.Bodies.{front}
use Rattle.smv_instantiate.specs.Written.{IsWrittenType}
use Rattle.smv_instantiate.proofs.Members.{Each, In, each_append, all_of_each, each_of_all, in_flat_back, Distinct, Apart, distinct_flat}

pub bytes_same : (x : Name) → bytes_eq x x ≡ true
bytes_same x = (bytes_eq-Decides x x).1 refl

pub names_same : (x y : Name) → bytes_eq x y ≡ true → x ≡ y
names_same x y e = (bytes_eq-Decides x y).0 e

-- ---- the part of a list before the first stop

module _ (Stop : ℕ → Type 0) where
  -- it holds no stop
  abbrev pub IsClear : Name → Type 0
  IsClear x = Each (λ b. Stop b → ⊥) x

  -- it is empty, or begins with a stop
  abbrev pub Ends : Name → Type 0
  Ends [] = Unit {0}
  Ends (b ∷ s) = Stop b

  pub first_part : (x y s t : Name) → IsClear x → IsClear y → Ends s → Ends t → x ++ s ≡ y ++ t → x ≡ y
  first_part [] [] s t cx cy es et e = refl
  first_part [] (b ∷ y) s t cx cy es et e = absurd (cy.0 (subst Ends e es))
  first_part (a ∷ x) [] s t cx cy es et e = absurd (cx.0 (subst Ends (sym e) et))
  first_part (a ∷ x) (b ∷ y) s t cx cy es et e =
      let h : a ≡ b = cc in
      let r : x ++ s ≡ y ++ t = cc in
      ap (λ z. z ∷ x) h ∙ ap (λ zs. b ∷ zs) (first_part x y s t cx.1 cy.1 es et r)

-- a dot or an opening bracket
pub data IsMark : ℕ → Type 0 where
  dot : IsMark 46
  bracket : IsMark 91

-- ---- atoms

no_mark : (f : ℕ → Bool) → f 46 ≡ false → f 91 ≡ false → (b : ℕ) → f b ≡ true → IsMark b → ⊥
no_mark f at_dot at_bracket b e IsMark.dot = false≢true (sym at_dot ∙ e)
no_mark f at_dot at_bracket b e IsMark.bracket = false≢true (sym at_bracket ∙ e)

pub tail_clear : (s : Name) → is_tail s ≡ true → IsClear IsMark s
tail_clear [] e = tt
tail_clear (b ∷ s) e =
    let parts = and_parts (is_name_byte b || b == 45 && begins_name s) (is_tail s) e in
    (no_mark (λ z. is_name_byte z || z == 45 && begins_name s) refl refl b parts.0, tail_clear s parts.1)

pub atom_clear : (x : Name) → IsAtom x → IsClear IsMark x
atom_clear [] e = tt
atom_clear (b ∷ s) e =
    let parts = and_parts (is_letter b) (is_tail s) (and_parts (has_shape (b ∷ s)) _ e).0 in
    (no_mark is_letter refl refl b parts.0, tail_clear s parts.1)

pub not_selector : (x : Name) → IsAtom x → x ≡ selector_name → ⊥
not_selector x atom e = false≢true (subst IsAtom e atom)

-- ---- spelled names

-- what the names of an instance begin with
pub spelled_front : (s : Scope) (x : Name) → spelled s x ≡ front s ++ x
spelled_front (Scope.Main m) x = refl
spelled_front (Scope.Inside around name process actuals m) x = sym (append_assoc (spelled around name) (46 ∷ []) x)

-- ---- indexed names

abbrev IsClose : ℕ → Type 0
IsClose b = b ≡ 93

digits_clear : (n : ℕ) → n < 2 ^ 64 → IsClear IsClose (decimal n)
digits_clear n small = decimal_by_steps (λ k ds. IsClear IsClose ds) one more n small
  where
    one : (k : ℕ) → k < 10 → IsClear IsClose ((48 + k) ∷ [])
    one k below = (λ e. omega arith, tt)

    more : (k : ℕ) (ds : List ℕ) → 10 ≤ k → IsClear IsClose ds → IsClear IsClose (ds ++ ((48 + k % 10) ∷ []))
    more k ds above clear = each_append (λ b. IsClose b → ⊥) ds ((48 + k % 10) ∷ []) clear (λ e. omega arith, tt)

-- the index stands between the brackets
index_of : (x : Name) (i : ℕ) (t : Name) → indexed x i ++ t ≡ x ++ (91 ∷ (decimal i ++ (93 ∷ t)))
index_of x i t = append_assoc (x ++ (91 ∷ decimal i)) (93 ∷ []) t ∙ append_assoc x (91 ∷ decimal i) (93 ∷ t)

index_same : (x : Name) (i j : ℕ) (s t : Name) → i < 2 ^ 64 → j < 2 ^ 64 → indexed x i ++ s ≡ indexed x j ++ t → i ≡ j
index_same x i j s t si sj e =
    let inner : 91 ∷ (decimal i ++ (93 ∷ s)) ≡ 91 ∷ (decimal j ++ (93 ∷ t)) = append_cancel_left x _ _ (sym (index_of x i s) ∙ e ∙ index_of x j t) in
    let rest : decimal i ++ (93 ∷ s) ≡ decimal j ++ (93 ∷ t) = cons_rest inner in
    decimal_injective i j si sj (first_part IsClose (decimal i) (decimal j) (93 ∷ s) (93 ∷ t) (digits_clear i si) (digits_clear j sj) refl refl rest)
  where
    cons_rest : {a b : ℕ} {xs ys : Name} → a ∷ xs ≡ b ∷ ys → xs ≡ ys
    cons_rest f = cc

-- ---- numbers that rise

pub rising_bounds : (low n k : ℕ) → In k (rising low n) → (low ≤ k) × (k < low + n)
rising_bounds low zero k i = elim i [ ]
rising_bounds low (suc n) k In.first = (omega arith, omega arith)
rising_bounds low (suc n) k (In.later i) = let r = rising_bounds (low + 1) n k i in (omega (arith, r.0), omega (arith, r.1))

at_or_above : (a b : ℕ) → a ≤ b → (b ≡ a) ⊎ (a + 1 ≤ b)
at_or_above a b h = grind arith

pub rising_has : (low n k : ℕ) → low ≤ k → k < low + n → In k (rising low n)
rising_has low zero k from below = absurd (omega arith)
rising_has low (suc n) k from below = rises (at_or_above low k from) (λ more. rising_has (low + 1) n k more (omega arith))
  where
    rises : (k ≡ low) ⊎ (low + 1 ≤ k) → (low + 1 ≤ k → In k (rising (low + 1) n)) → In k (low ∷ rising (low + 1) n)
    rises (inl same) rest = subst (λ z. In z (low ∷ rising (low + 1) n)) (sym same) In.first
    rises (inr more) rest = In.later (rest more)

pub rising_distinct : (low n : ℕ) → Distinct (rising low n)
rising_distinct low zero = tt
rising_distinct low (suc n) = (λ i. let r = rising_bounds (low + 1) n low i in omega (arith, r.0), rising_distinct (low + 1) n)

-- ---- the elements of an array

-- z is x, or x with a mark and more
pub record Continues (x z : Name) : Type 0 where
  pub rest : Name
  pub ends : Ends IsMark rest
  pub is : z ≡ x ++ rest

itself : (x z : Name) → z ≡ x → Continues x z
itself x z same = record { rest = []; ends = tt; is = same ∙ sym (append-nil x) }

only : {x z : Name} → In z (x ∷ []) → z ≡ x
only In.first = refl
only (In.later i) = elim i [ ]

pub elements_continue : (type : Plain) (x z : Name) → In z (element_names type x) → Continues x z
elements_continue Plain.Boolean x z i = itself x z (only i)
elements_continue (Plain.Enumeration constants) x z i = itself x z (only i)
elements_continue (Plain.Range low high) x z i = itself x z (only i)
elements_continue (Plain.Array low high element) x z i =
    let b = in_flat_back (λ j. element_names element (indexed x j)) (between low high) i in
    let h = elements_continue element (indexed x b.0) z b.2 in
    record { rest = 91 ∷ (decimal b.0 ++ (93 ∷ h.rest)); ends = IsMark.bracket; is = h.is ∙ index_of x b.0 h.rest }

pub elements_distinct : (type : Plain) (x : Name) → IsWrittenType type → Distinct (element_names type x)
elements_distinct Plain.Boolean x w = (λ i. elim i [ ], tt)
elements_distinct (Plain.Enumeration constants) x w = (λ i. elim i [ ], tt)
elements_distinct (Plain.Range low high) x w = (λ i. elim i [ ], tt)
elements_distinct (Plain.Array low high element) x w =
    distinct_flat (λ i. element_names element (indexed x i)) (between low high) (λ i there. elements_distinct element (indexed x i) w.2)
    (apart (between low high) (rising_distinct low (high + 1 - low)) (λ i there. let r = rising_bounds low (high + 1 - low) i there in small i r.0 r.1))
  where
    top : high ≤ 2147483647
    top = w.1

    small : (i : ℕ) → low ≤ i → i < low + (high + 1 - low) → i < 2 ^ 64
    small i from below = omega (arith, top)

    apart : (is : List ℕ) → Distinct is → ((i : ℕ) → In i is → i < 2 ^ 64) → Apart (λ i. element_names element (indexed x i)) is
    apart [] h bound = tt
    apart (i ∷ is) h bound = (
      λ j there z a b. let c = elements_continue element (indexed x i) z a in let d = elements_continue element (indexed x j) z b in
          let same : i ≡ j = index_same x i j c.rest d.rest (bound i In.first) (bound j (In.later there)) (sym c.is ∙ d.is) in
          h.0 (subst (λ k. In k is) (sym same) there),
      apart is h.1 (λ j there. bound j (In.later there)),
    )

-- ---- names of the right form

dotted-append : (x : Name) (ys : List Name) (y : Name) → dotted x (ys ++ (y ∷ [])) ≡ dotted x ys ++ (46 ∷ y)
dotted-append x [] y = refl
dotted-append x (z ∷ zs) y = dotted-append (x ++ (46 ∷ z)) zs y

bracketed-append : (x : Name) (is : List ℕ) (i : ℕ) → bracketed x (is ++ (i ∷ [])) ≡ bracketed x is ++ (91 ∷ decimal i) ++ (93 ∷ [])
bracketed-append x [] i = refl
bracketed-append x (j ∷ js) i = bracketed-append (x ++ (91 ∷ decimal j) ++ (93 ∷ [])) js i

pub process_named : (x y : Name) → IsProcessName x → IsAtom y → IsProcessName (x ++ (46 ∷ y))
process_named x y h atom = (
  h.0,
  h.1 ++ (y ∷ []),
  h.2,
  all_of_each IsAtom (h.1 ++ (y ∷ [])) (each_append IsAtom h.1 (y ∷ []) (each_of_all IsAtom h.1 h.3) (atom, tt)),
  ap (λ z. z ++ (46 ∷ y)) h.4 ∙ sym (dotted-append h.0 h.1 y),
)

pub atom_named : (x : Name) → IsAtom x → IsProcessName x
atom_named x atom = (x, [], atom, all_of_each IsAtom [] tt, refl)

pub variable_named : (x : Name) → IsProcessName x → IsVariableName x
variable_named x h = ([], h)

pub element_named : (x : Name) (i : ℕ) → IsVariableName x → IsVariableName (indexed x i)
element_named x i (is, (y, ys, atom, atoms, same)) = (
  is ++ (i ∷ []),
  (y, ys, atom, atoms, ap (λ z. z ++ (91 ∷ decimal i) ++ (93 ∷ [])) same ∙ sym (bracketed-append (dotted y ys) is i)),
)

pub elements_named : (type : Plain) (x z : Name) → IsVariableName x → In z (element_names type x) → IsVariableName z
elements_named Plain.Boolean x z h i = subst IsVariableName (sym (only i)) h
elements_named (Plain.Enumeration constants) x z h i = subst IsVariableName (sym (only i)) h
elements_named (Plain.Range low high) x z h i = subst IsVariableName (sym (only i)) h
elements_named (Plain.Array low high element) x z h i =
    let b = in_flat_back (λ j. element_names element (indexed x j)) (between low high) i in
    elements_named element (indexed x b.0) z (element_named x b.0 h) b.2
