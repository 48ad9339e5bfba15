-- States and orders are known by their words.
use Rattle.std.proofs.Common.{◌≡◌, inl, inr, ℕ, zero, suc, ◌+◌, ◌<◌, ◌≤◌, Bool, true, false, cond, ◌&&◌, ◌==◌, List, [], ◌∷◌, length, map, get_or, ℤ, pos, negsuc, decimal, refl, sym, ◌∙◌, ap, subst, arith}
use Rattle.std.specs.Prelude.{All, Contains}
use Rattle.std.specs.Fmt.{signed_decimal}
use Rattle.std.specs.List.{slice_index_or}
use Rattle.std.proofs.lemmas.Bool.{cases_lt, eqb-true}
use Rattle.std.proofs.lemmas.Bool.Decides.{nat_tests}
use Rattle.std.proofs.lemmas.Fmt.{decimal_is_IsNumeral}
use Rattle.std.proofs.lemmas.List.{length-map}
use Rattle.std.proofs.lemmas.List.Elements.{All-head, All-tail}
use Rattle.std.proofs.lemmas.Str.Parse.{digit_at}
use Rattle.kripke_model.specs.declared.expressions.Value.{Value}
use Rattle.kripke_model.specs.declared.expressions.Value.TheVariants.{Number, Symbol}
use Rattle.kripke_model.specs.Evaluable.{IsKnown}
use Rattle.kripke_model.specs.Flat.{IsFlat, AreDistinct}
use Rattle.kripke_model.specs.Names.{is_letter, is_tail, has_shape}
use Rattle.kripke_model.specs.Shown.{process_name, value_text}
use Rattle.kripke_model.specs.Step.{IsState}
use Rattle.kripke_model.specs.System.{System, State, Variable, value_in, variable_name}
use Rattle.proof_text.specs.Lines.{value_words}
use Rattle.proof_text.specs.SmallNumbers.{IsSmallValue, HasSmallNumbers}
use Rattle.text_lines.proofs.Lists.{same_first, same_rest}
use Rattle.proof_text.proofs.KnownBlocks.{StatesAreKnown}
use Rattle.proof_text.proofs.KnownLines.{IsSmall, same_number}
use Rattle.proof_text.proofs.PlainNames.{atom_shape}
use Rattle.proof_text.proofs.PlainWords.{parts_of_and}

-- a name stands at one place
one_place : (names : List (List ℕ)) → AreDistinct names → (a b : ℕ) → a < length names → b < length names → slice_index_or names a [] ≡ slice_index_or names b [] → a ≡ b
one_place names distinct a b p q e = elim (cases_lt a b) [
  | inl less ↦ absurd (distinct a b [] less q e)
  | inr above ↦ elim (cases_lt b a) [
    | inl less ↦ absurd (distinct b a [] less p (sym e))
    | inr same ↦ omega (arith, above, same)
  ]
]

-- ---- first bytes

letter_large : (b : ℕ) → is_letter b ≡ true → 65 ≤ b
letter_large b h = grind (arith, nat_tests)

atom_byte : (w : List ℕ) → has_shape w ≡ true → 65 ≤ get_or w 0 0
atom_byte [] h = absurd cc
atom_byte (b ∷ s) h = letter_large b (parts_of_and (is_letter b) (is_tail s) h).0

decimal_byte : (n : ℕ) → IsSmall n → (48 ≤ get_or (decimal n) 0 0) × (get_or (decimal n) 0 0 ≤ 57)
decimal_byte n small = let h = (decimal_is_IsNumeral n (omega arith)).0 in digit_at (decimal n) 0 h.1 h.0

signed_byte : (i : ℤ) → IsSmallValue (Number i) → get_or (signed_decimal i) 0 0 ≤ 57
signed_byte (pos n) small = (decimal_byte n (omega (arith, small))).1
signed_byte (negsuc n) small = omega arith

signed_known : (i j : ℤ) → IsSmallValue (Number i) → IsSmallValue (Number j) → signed_decimal i ≡ signed_decimal j → i ≡ j
signed_known (pos n) (pos k) p q e = ap pos (same_number n k (omega (arith, p)) (omega (arith, q)) e)
signed_known (pos n) (negsuc k) p q e = absurd (omega (arith, (decimal_byte n (omega (arith, p))).0, ap (λ w. get_or w 0 0) e))
signed_known (negsuc n) (pos k) p q e = absurd (omega (arith, (decimal_byte k (omega (arith, q))).0, ap (λ w. get_or w 0 0) e))
signed_known (negsuc n) (negsuc k) p q e =
    let same : suc n ≡ suc k = same_number (suc n) (suc k) (omega (arith, p)) (omega (arith, q)) (same_rest 45 45 (decimal (suc n)) (decimal (suc k)) e) in
    ap negsuc (omega (arith, same))

module _ (m : System) (flat : IsFlat m) (small : HasSmallNumbers m) where
  -- a value of variable j
  record Fits (j : ℕ) (v : Value) : Type 0 where
    pub known : IsKnown m v
    pub number : IsSmallValue v
    pub process : (m.selector && (j == 0)) ≡ true → (k : ℕ) × (k < length m.processes) × (v ≡ Number (pos k))

  fits : (j : ℕ) (v : Value) → j < length m.vars → ((d : Variable) → Contains (slice_index_or m.vars j d).values v) → Fits j v
  fits j v below typed = record { known = known; number = number; process = process }
    where
      known : IsKnown m v
      known = let c = typed (record { name = []; values = []; line = 0 }) in subst (IsKnown m) c.2 ((flat.types j (record { name = []; values = []; line = 0 }) below).known c.0 v c.1)

      number : IsSmallValue v
      number = let c = typed (record { name = []; values = []; line = 0 }) in subst IsSmallValue c.2 (small j (record { name = []; values = []; line = 0 }) below c.0 v c.1)

      process : (m.selector && (j == 0)) ≡ true → (k : ℕ) × (k < length m.processes) × (v ≡ Number (pos k))
      process e =
          let p = parts_of_and m.selector (j == 0) e in
          let first : j ≡ 0 = eqb-true j 0 p.1 in
          let h = flat.with_selector p.0 in
          let c : Contains h.0.values v = subst (λ (x : Variable). Contains x.values v) (ap (λ i. slice_index_or m.vars i h.0) first ∙ h.1) (typed h.0) in
          (c.0, omega (arith, c.1, h.4), sym c.2 ∙ h.5 c.0 v (omega (arith, c.1, h.4)))

  shown : ℕ → ℤ → List ℕ
  shown j i = cond (m.selector && (j == 0)) (process_name m i) (signed_decimal i)

  process_known : (v w : Value) (b : Bool) → b ≡ true → ((k : ℕ) × (k < length m.processes) × (v ≡ Number (pos k))) → ((k : ℕ) × (k < length m.processes) × (w ≡ Number (pos k)))
      → (j : ℕ) → (m.selector && (j == 0)) ≡ b → value_text m j v ≡ value_text m j w → v ≡ w
  process_known v w b on p q j is e =
      let text : (k : ℕ) (x : Value) → x ≡ Number (pos k) → value_text m j x ≡ slice_index_or m.processes k [] =
      λ k x s. ap (value_text m j) s ∙ ap (λ c. cond c (slice_index_or m.processes k []) (decimal k)) (is ∙ on) in
      let same : p.0 ≡ q.0 = one_place m.processes flat.distinct_processes p.0 q.0 p.1 q.1 (sym (text p.0 v p.2) ∙ e ∙ text q.0 w q.2) in
      p.2 ∙ ap (λ k. Number (pos k)) same ∙ sym q.2

  plain_known : (v w : Value) → IsKnown m v → IsKnown m w → IsSmallValue v → IsSmallValue w → (j : ℕ) → (m.selector && (j == 0)) ≡ false → value_text m j v ≡ value_text m j w → v ≡ w
  plain_known (Symbol c) (Symbol d) kv kw sv sw j is e = ap Symbol (one_place m.symbols flat.distinct_symbols c d kv kw e)
  plain_known (Symbol c) (Number i) kv kw sv sw j is e =
      absurd (omega (
        arith,
        atom_byte (slice_index_or m.symbols c []) (atom_shape (slice_index_or m.symbols c []) (flat.symbols c [] kv)),
        signed_byte i sw,
        ap (λ t. get_or t 0 0) (e ∙ ap (λ b. cond b (process_name m i) (signed_decimal i)) is),
      ))
  plain_known (Number i) (Symbol c) kv kw sv sw j is e =
      absurd (omega (
        arith,
        atom_byte (slice_index_or m.symbols c []) (atom_shape (slice_index_or m.symbols c []) (flat.symbols c [] kw)),
        signed_byte i sv,
        ap (λ t. get_or t 0 0) (sym e ∙ ap (λ b. cond b (process_name m i) (signed_decimal i)) is),
      ))
  plain_known (Number i) (Number k) kv kw sv sw j is e =
      ap Number (signed_known i k sv sw (sym (ap (λ b. cond b (process_name m i) (signed_decimal i)) is) ∙ e ∙ ap (λ b. cond b (process_name m k) (signed_decimal k)) is))

  value_known : (j : ℕ) (v w : Value) → Fits j v → Fits j w → value_text m j v ≡ value_text m j w → v ≡ w
  value_known j v w p q e = go (m.selector && (j == 0)) refl
    where
      go : (b : Bool) → (m.selector && (j == 0)) ≡ b → v ≡ w
      go true is = process_known v w true refl (p.process is) (q.process is) j is e
      go false is = plain_known v w p.known q.known p.number q.number j is e

  values_known : (x : ℕ) (s t : State) → length s ≡ length t → ((k j : ℕ) → j ≡ x + k → k < length s → Fits j (value_in s k)) → ((k j : ℕ) → j ≡ x + k → k < length t → Fits j (value_in t k))
      → value_words m x s ≡ value_words m x t → s ≡ t
  values_known x [] [] n p q e = refl
  values_known x [] (w ∷ t) n p q e = absurd (omega (arith, n))
  values_known x (v ∷ s) [] n p q e = absurd (omega (arith, n))
  values_known x (v ∷ s) (w ∷ t) n p q e =
      let first = value_known x v w (p 0 x (omega arith) (omega arith)) (q 0 x (omega arith) (omega arith))
      (same_first (value_text m x v) (value_text m x w) (value_words m (x + 1) s) (value_words m (x + 1) t) e) in
      let rest = values_known (x + 1) s t (omega (arith, n)) (λ k j i lt. p (suc k) j (omega (arith, i)) (omega (arith, lt))) (λ k j i lt. q (suc k) j (omega (arith, i)) (omega (arith, lt)))
      (same_rest (value_text m x v) (value_text m x w) (value_words m (x + 1) s) (value_words m (x + 1) t) e) in
      (λ i. first i ∷ rest i)

  state_fits : (s : State) → IsState m s → (k j : ℕ) → j ≡ 0 + k → k < length s → Fits j (value_in s k)
  state_fits s is k j e lt =
      let same : k ≡ j = omega (arith, e) in
      let below : k < length m.vars = omega (arith, lt, is.each) in
      subst (λ i. Fits i (value_in s k)) same (fits k (value_in s k) below (λ d. is.typed k d below))

  pub states_known : StatesAreKnown m
  states_known s t p q e = values_known 0 s t (p.each ∙ sym q.each) (state_fits s p) (state_fits t q) e

  -- ---- orders

  name_at : (vars : List Variable) (x : ℕ) → slice_index_or (map (λ v. v.name) vars) x [] ≡ (slice_index_or vars x (record { name = []; values = []; line = 0 })).name
  name_at [] x = refl
  name_at (v ∷ vars) zero = refl
  name_at (v ∷ vars) (suc x) = name_at vars x

  variable_known : (x y : ℕ) → x < length m.vars → y < length m.vars → variable_name m x ≡ variable_name m y → x ≡ y
  variable_known x y p q e =
      one_place (map (λ (v : Variable). v.name) m.vars) flat.distinct_variables x y (omega (arith, p, length-map m.vars (λ (v : Variable). v.name))) (omega (arith, q, length-map m.vars (λ (v : Variable). v.name)))
      (name_at m.vars x ∙ e ∙ sym (name_at m.vars y))

  pub order_known : (xs ys : List ℕ) → All (λ x. x < length m.vars) xs → All (λ x. x < length m.vars) ys → map (variable_name m) xs ≡ map (variable_name m) ys → xs ≡ ys
  order_known [] [] p q e = refl
  order_known [] (y ∷ ys) p q e = absurd (omega (arith, ap length e))
  order_known (x ∷ xs) [] p q e = absurd (omega (arith, ap length e))
  order_known (x ∷ xs) (y ∷ ys) p q e =
      let first = variable_known x y (All-head (λ x. x < length m.vars) x xs p) (All-head (λ x. x < length m.vars) y ys q)
      (same_first (variable_name m x) (variable_name m y) (map (variable_name m) xs) (map (variable_name m) ys) e) in
      let rest = order_known xs ys (All-tail (λ x. x < length m.vars) x xs p) (All-tail (λ x. x < length m.vars) y ys q)
      (same_rest (variable_name m x) (variable_name m y) (map (variable_name m) xs) (map (variable_name m) ys) e) in
      (λ i. first i ∷ rest i)
