-- The models that a program can have print each value in one line, and no two values of a variable alike.
use lib.Signed.{mag}
use Rattle.std.proofs.Common.{◌≡◌, inl, inr, ℕ, zero, suc, ◌/◌, ◌%◌, ◌<◌, ◌≤◌, ◌^◌, Bool, true, false, not, ◌&&◌, ◌||◌, ◌==◌, List, [], ◌∷◌, ◌++◌, length, get_or, take, drop, ℤ, pos, negsuc, refl, sym, ◌∙◌, ap, subst, arith}
use Rattle.std.specs.Prelude.{All, Contains, decimal, if◌then◌else◌}
use Rattle.std.specs.Fmt.{digits, digits_onto, digit_glyph, signed_decimal}
use Rattle.std.specs.List.{list_any}
use Rattle.std.specs.Str.{bytes_eq}
use Rattle.std.proofs.lemmas.Bool.{and_parts, false≢true, cases_lt}
use Rattle.std.proofs.lemmas.Bool.Decides.{eqb_tells}
use Rattle.std.proofs.lemmas.Fmt.{signed_decimal_injective}
use Rattle.std.proofs.lemmas.List.{get_or_default}
use Rattle.std.proofs.lemmas.List.Elements.{All-nil, All-cons, All-head, All-tail}
use Rattle.kripke_model.specs.Evaluable.{IsKnown}
use Rattle.kripke_model.specs.Flat.{IsFlat, HasSelector, AreDistinct, plain_variables, main_name}
use Rattle.kripke_model.specs.Names.{is_letter, is_name_byte, begins_name, is_tail, has_shape, reserved, IsAtom, dotted, bracketed, IsFlatName, IsVariableName, IsProcessName}
use Rattle.kripke_model.specs.System.{System, Variable}
use Rattle.kripke_model.specs.declared.expressions.Value.{Value}
use Rattle.kripke_model.specs.declared.expressions.Value.TheVariants.{Number, Symbol}
use Rattle.kripke_model.specs.Shown.{process_name, value_text}
use Rattle.text_lines.specs.WholeLines.{IsOneLine}
use Rattle.trace_files.specs.Small.{IsSmall, HasSmallValues}
use Rattle.trace_files.proofs.Texts.{PrintsApart, both_one, single_one, more_one, empty_one, decimal_one, main_one, running_one}

-- ---- names stand in one line

-- a line feed belongs to no tail of an atom
no_feed_tail : (c : ℕ) (s : List ℕ) → c ≡ 10 → is_tail (c ∷ s) ≡ true → ⊥
no_feed_tail c s e h = false≢true (subst (λ b. is_tail (b ∷ s) ≡ true) e h)

tail_one : (s : List ℕ) → is_tail s ≡ true → IsOneLine s
tail_one [] h = empty_one
tail_one (c ∷ s) h = more_one c s (single_one c (λ e. no_feed_tail c s e h)) (tail_one s (and_parts (is_name_byte c || c == 45 && begins_name s) (is_tail s) h).1)

no_feed_letter : (c : ℕ) → c ≡ 10 → is_letter c ≡ true → ⊥
no_feed_letter c e h = false≢true (subst (λ b. is_letter b ≡ true) e h)

-- its first byte is a letter
first_letter : (c : ℕ) (s : List ℕ) → IsAtom (c ∷ s) → is_letter c ≡ true
first_letter c s h = (and_parts (is_letter c) (is_tail s) (and_parts (has_shape (c ∷ s)) (not (list_any (bytes_eq (c ∷ s)) reserved)) h).0).0

atom_one : (x : List ℕ) → IsAtom x → IsOneLine x
atom_one [] h = empty_one
atom_one (c ∷ s) h =
    let p = and_parts (is_letter c) (is_tail s) (and_parts (has_shape (c ∷ s)) (not (list_any (bytes_eq (c ∷ s)) reserved)) h).0 in
    more_one c s (single_one c (λ e. no_feed_letter c e p.0)) (tail_one s p.1)

dotted_one : (x : List ℕ) (ys : List (List ℕ)) → IsOneLine x → All IsAtom ys → IsOneLine (dotted x ys)
dotted_one x [] one atoms = one
dotted_one x (y ∷ ys) one atoms =
    dotted_one (x ++ (46 ∷ y)) ys (both_one x (46 ∷ y) one (more_one 46 y (single_one 46 (λ e. omega arith)) (atom_one y (All-head IsAtom y ys atoms)))) (All-tail IsAtom y ys atoms)

bracketed_one : (x : List ℕ) (is : List ℕ) → IsOneLine x → IsOneLine (bracketed x is)
bracketed_one x [] one = one
bracketed_one x (i ∷ is) one =
    bracketed_one (x ++ (91 ∷ decimal i) ++ (93 ∷ [])) is
    (both_one (x ++ (91 ∷ decimal i)) (93 ∷ []) (both_one x (91 ∷ decimal i) one (more_one 91 (decimal i) (single_one 91 (λ e. omega arith)) (decimal_one i))) (single_one 93 (λ e. omega arith)))

flat_name_one : (is name : List ℕ) → IsFlatName is name → IsOneLine name
flat_name_one is name (x, ys, atom, atoms, e) = subst IsOneLine (sym e) (bracketed_one (dotted x ys) is (dotted_one x ys (atom_one x atom) atoms))

-- ---- numbers are none of atoms

-- digits, and the sign, are no letters
abbrev IsLow : List ℕ → Type 0
IsLow text = All (λ b. b ≤ 57) text

glyph_low : (n : ℕ) → digit_glyph false (n % 10) ≤ 57
glyph_low n = grind arith

digits_low : (k n : ℕ) (after : List ℕ) → IsLow after → IsLow (digits_onto k 10 false n after)
digits_low zero n after low = low
digits_low (suc k) n after low =
    go (n / 10 == 0) (All-cons (λ b. b ≤ 57) (digit_glyph false (n % 10)) after (glyph_low n) low) (λ h. digits_low k (n / 10) (digit_glyph false (n % 10) ∷ after) h)
  where
    go : (last : Bool) → IsLow (digit_glyph false (n % 10) ∷ after) → (IsLow (digit_glyph false (n % 10) ∷ after) → IsLow (digits_onto k 10 false (n / 10) (digit_glyph false (n % 10) ∷ after)))
        → IsLow (if last then digit_glyph false (n % 10) ∷ after else digits_onto k 10 false (n / 10) (digit_glyph false (n % 10) ∷ after))
    go true here more = here
    go false here more = more here

decimal_low : (n : ℕ) → IsLow (decimal n)
unfolding digits
decimal_low n = digits_low 64 n [] (All-nil (λ b. b ≤ 57))

signed_low : (z : ℤ) → IsLow (signed_decimal z)
signed_low (pos n) = decimal_low n
signed_low (negsuc n) = All-cons (λ b. b ≤ 57) 45 (decimal (suc n)) (omega arith) (decimal_low (suc n))

signed_one : (z : ℤ) → IsOneLine (signed_decimal z)
signed_one (pos n) = decimal_one n
signed_one (negsuc n) = more_one 45 (decimal (suc n)) (single_one 45 (λ e. omega arith)) (decimal_one (suc n))

letter_high : (c : ℕ) → is_letter c ≡ true → 65 ≤ c
letter_high c h = grind arith

atom_no_number : (x : List ℕ) (z : ℤ) → IsAtom x → x ≡ signed_decimal z → ⊥
atom_no_number [] z atom e = false≢true atom
atom_no_number (c ∷ s) z atom e =
    let low : IsLow (c ∷ s) = subst IsLow (sym e) (signed_low z) in
    let high : 65 ≤ c = letter_high c (first_letter c s atom) in
    let here : c ≤ 57 = All-head (λ b. b ≤ 57) c s low in
    omega arith

-- ---- equal members of a list without repeats stand at one place

same_place : (xs : List (List ℕ)) → AreDistinct xs → (i j : ℕ) → i < length xs → j < length xs → get_or xs i [] ≡ get_or xs j [] → i ≡ j
same_place xs distinct i j l k e = elim (cases_lt i j) [
  | inl less ↦ absurd (distinct i j [] less k e)
  | inr above ↦ elim (cases_lt j i) [ inl less ↦ absurd (distinct j i [] less l (sym e)) | inr same ↦ omega arith ]
]

number_of : Value → ℤ
number_of (Number z) = z
number_of (Symbol c) = pos 0

small_mag : (z : ℤ) → IsSmall (Number z) → mag z < 2 ^ 63
small_mag (pos n) h = h
small_mag (negsuc n) h = h

module _ (m : System) (flat : IsFlat m) (small : HasSmallValues m) where
  -- ---- symbols, processes and variables

  symbol_one : (c : ℕ) → IsOneLine (get_or m.symbols c [])
  symbol_one c = go m.symbols c flat.symbols
    where
      go : (xs : List (List ℕ)) (k : ℕ) → All IsAtom xs → IsOneLine (get_or xs k [])
      go [] k atoms = empty_one
      go (x ∷ xs) zero atoms = atom_one x (All-head IsAtom x xs atoms)
      go (x ∷ xs) (suc k) atoms = go xs k (All-tail IsAtom x xs atoms)

  first_main : (xs : List (List ℕ)) → take 1 xs ≡ main_name ∷ [] → All IsProcessName (drop 1 xs) → (p : ℕ) → IsOneLine (get_or xs p [])
  first_main [] e names p = empty_one
  first_main (x ∷ xs) e names zero = subst IsOneLine (sym (ap (λ ys. get_or ys 0 []) e)) main_one
  first_main (x ∷ xs) e names (suc p) = go xs p names
    where
      go : (ys : List (List ℕ)) (k : ℕ) → All IsProcessName ys → IsOneLine (get_or ys k [])
      go [] k h = empty_one
      go (y ∷ ys) zero h = flat_name_one [] y (All-head IsProcessName y ys h)
      go (y ∷ ys) (suc k) h = go ys k (All-tail IsProcessName y ys h)

  process_one : (z : ℤ) → IsOneLine (process_name m z)
  process_one (pos p) = first_main m.processes flat.main_process flat.processes p
  process_one (negsuc p) = empty_one

  number_one : (b : Bool) (z : ℤ) → IsOneLine (if b then process_name m z else signed_decimal z)
  number_one true z = process_one z
  number_one false z = signed_one z

  text_one : (x : ℕ) (a : Value) → IsOneLine (value_text m x a)
  text_one x (Symbol c) = symbol_one c
  text_one x (Number z) = number_one (m.selector && x == 0) z

  -- ---- the selector

  -- its values are the numbers of processes
  record IsProcess (a : Value) : Type 0 where
    pub number : ℕ
    pub within : number < length m.processes
    pub is : a ≡ Number (pos number)

  selected : HasSelector m → (v : Variable) (a : Value) → Contains (get_or m.vars 0 v).values a → IsProcess a
  selected (u, here, some, name, count, numbers) v a h =
      let same : get_or m.vars 0 v ≡ u = get_or_default m.vars 0 v u some ∙ here in
      let k : Contains u.values a = subst (λ (y : Variable). Contains y.values a) same h in
      let l : k.0 < length m.processes = omega (arith, k.1, count) in
      record { number = k.0; within = l; is = sym k.2 ∙ numbers k.0 a l }

  -- ---- values

  type_known : (x : ℕ) (v : Variable) (a : Value) → x < length m.vars → Contains (get_or m.vars x v).values a → IsKnown m a
  type_known x v a l h = subst (IsKnown m) h.2 ((flat.types x v l).known h.0 a h.1)

  type_small : (x : ℕ) (v : Variable) (a : Value) → x < length m.vars → Contains (get_or m.vars x v).values a → IsSmall a
  type_small x v a l h = subst IsSmall h.2 (small x v l h.0 a h.1)

  -- the variable is the selector, or it isn't
  module _ (x : ℕ) (v : Variable) (l : x < length m.vars) where
    abbrev Is : Value → Type 0
    Is a = Contains (get_or m.vars x v).values a

    abbrev IsSelector : Bool → Type 0
    IsSelector b = (m.selector && x == 0) ≡ b

    process_of : IsSelector true → (a : Value) → Is a → IsProcess a
    process_of s a h =
        let p = and_parts m.selector (x == 0) s in
        selected (flat.with_selector p.0) v a (subst (λ k. Contains (get_or m.vars k v).values a) (is_zero x p.1) h)
      where
        is_zero : (x : ℕ) → (x == 0) ≡ true → x ≡ 0
        is_zero x e = elim (eqb_tells x 0) [ inl same ↦ same.1 | inr differ ↦ absurd (false≢true (sym differ.0 ∙ e)) ]

    no_symbol : (c : ℕ) → IsProcess (Symbol c) → ⊥
    no_symbol c p = differ p.is
      where
        differ : Symbol c ≡ Number (pos p.number) → ⊥
        differ e = cc

    number_apart : (b : Bool) → IsSelector b → (y z : ℤ) → Is (Number y) → Is (Number z) → (if b then process_name m y else signed_decimal y) ≡ (if b then process_name m z else signed_decimal z)
        → Number y ≡ Number z
    unfolding number_of
    number_apart true s y z h k e =
        let p = process_of s (Number y) h in
        let q = process_of s (Number z) k in
        let left : process_name m y ≡ get_or m.processes p.number [] = ap (λ a. process_name m (number_of a)) p.is in
        let right : process_name m z ≡ get_or m.processes q.number [] = ap (λ a. process_name m (number_of a)) q.is in
        p.is ∙ ap (λ n. Number (pos n)) (same_place m.processes flat.distinct_processes p.number q.number p.within q.within (sym left ∙ e ∙ right)) ∙ sym q.is
    number_apart false s y z h k e = ap Number (signed_decimal_injective y z (small_mag y (type_small x v (Number y) l h)) (small_mag z (type_small x v (Number z) l k)) e)

    symbol_number : (b : Bool) → IsSelector b → (c : ℕ) (z : ℤ) → Is (Symbol c) → get_or m.symbols c [] ≡ (if b then process_name m z else signed_decimal z) → ⊥
    symbol_number true s c z h e = no_symbol c (process_of s (Symbol c) h)
    symbol_number false s c z h e = atom_no_number (get_or m.symbols c []) z (flat.symbols c [] (type_known x v (Symbol c) l h)) e

    values_apart : (a b : Value) → Is a → Is b → value_text m x a ≡ value_text m x b → a ≡ b
    values_apart (Symbol c) (Symbol d) h k e = ap Symbol (same_place m.symbols flat.distinct_symbols c d (type_known x v (Symbol c) l h) (type_known x v (Symbol d) l k) e)
    values_apart (Symbol c) (Number z) h k e = absurd (symbol_number (m.selector && x == 0) refl c z h e)
    values_apart (Number y) (Symbol d) h k e = absurd (symbol_number (m.selector && x == 0) refl d y k (sym e))
    values_apart (Number y) (Number z) h k e = number_apart (m.selector && x == 0) refl y z h k e

  -- ---- names of variables

  selector_or_not : (b : Bool) → (m.selector ≡ b) → All (λ u. IsOneLine u.name) m.vars
  selector_or_not true s = behind m.vars (first_name (flat.with_selector s)) (subst (λ c. All (λ u. IsVariableName u.name) (plain_variables (record m { selector = c }))) s flat.variables)
    where
      first_name : HasSelector m → (d : Variable) → IsOneLine (get_or m.vars 0 d).name
      first_name (u, here, some, name, count, numbers) d = subst IsOneLine (sym (ap (λ (y : Variable). y.name) (get_or_default m.vars 0 d u some ∙ here) ∙ name)) running_one

      behind : (vars : List Variable) → ((d : Variable) → IsOneLine (get_or vars 0 d).name) → All (λ u. IsVariableName u.name) (drop 1 vars) → All (λ u. IsOneLine u.name) vars
      behind [] first names = All-nil (λ u. IsOneLine u.name)
      behind (w ∷ vars) first names = All-cons (λ u. IsOneLine u.name) w vars (first w) (λ i d less. let n = names i d less in flat_name_one n.0 (get_or vars i d).name n.1)
  selector_or_not false s = each m.vars (subst (λ c. All (λ u. IsVariableName u.name) (plain_variables (record m { selector = c }))) s flat.variables)
    where
      each : (vars : List Variable) → All (λ u. IsVariableName u.name) vars → All (λ u. IsOneLine u.name) vars
      each vars names = λ i d less. let n = names i d less in flat_name_one n.0 (get_or vars i d).name n.1

  pub prints_apart : PrintsApart m
  prints_apart = record {
    apart = λ x v a b l. values_apart x v l a b;
    in_line = λ x v a l h. text_one x a;
    names = selector_or_not m.selector refl;
    few = flat.limits.specifications;
  }
