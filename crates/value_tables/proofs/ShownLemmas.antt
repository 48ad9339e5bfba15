-- The states that a list of bits shows.
use Rattle.std.proofs.Common.{◌≡◌, ℕ, zero, suc, ◌+◌, ◌-◌, ◌<◌, ◌≤◌, min, ◌⊎◌, Bool, true, false, Ok, ◌&&◌, ◌||◌, ltb, leb, eqb, List, [], length, get_or, pos, inl, inr, refl, sym, ap, ◌∙◌, arith}
use Rattle.std.proofs.lemmas.Bool.{lt-ltb, le-ltb, le-leb, lt-leb, eq-eqb, ne_eqb, cases_lt, cases_eq, cases_order}
use Rattle.std.proofs.lemmas.List.{get_or_past}
use Rattle.kripke_model.specs.declared.expressions.Value.{Value}
use Rattle.kripke_model.specs.declared.expressions.Value.TheVariants.{Number}
use Rattle.kripke_model.specs.System.{value_in}
use Rattle.kripke_model.specs.Evaluation.{Checked}
use Rattle.value_tables.specs.Cells.{same_reading}
use Rattle.bit_encode.specs.Code.{Coding, values_of}
use Rattle.value_tables.specs.States.{code_shown, value_shown, values_shown, state_shown}
use Rattle.variable_codes.specs.Codes.{is_spelled}
use Rattle.variable_codes.proofs.CodeLemmas.{spelled_alone, spelled_at_least}

-- ---- the states

value_in-shown : (c : Coding) (next : Bool) (bits : List Bool) (x m k : ℕ) → k < m → value_in (values_shown c next bits x m) k ≡ value_shown c next bits (x + k)
value_in-shown c next bits x zero k lt = absurd (omega arith)
value_in-shown c next bits x (suc m) zero lt = ap (value_shown c next bits) (omega arith)
value_in-shown c next bits x (suc m) (suc k) lt = value_in-shown c next bits (x + 1) m k (omega arith) ∙ ap (value_shown c next bits) (omega arith)

pub length-shown : (c : Coding) (next : Bool) (bits : List Bool) (x m : ℕ) → length (values_shown c next bits x m) ≡ m
length-shown c next bits x zero = refl
length-shown c next bits x (suc m) = ap suc (length-shown c next bits (x + 1) m)

-- the value of a variable
pub variable_shown : (c : Coding) (next : Bool) (bits : List Bool) (x : ℕ) → x < length c.types → value_in (state_shown c next bits) x ≡ value_shown c next bits x
variable_shown c next bits x lt = value_in-shown c next bits 0 (length c.types) x lt ∙ ap (value_shown c next bits) (omega arith)

pub variable_unknown : (c : Coding) (next : Bool) (bits : List Bool) (x : ℕ) → length c.types ≤ x → value_in (state_shown c next bits) x ≡ Number (pos 0)
variable_unknown c next bits x le = get_or_past (state_shown c next bits) x (Number (pos 0)) (omega (arith, length-shown c next bits 0 (length c.types)))

-- ---- the table of a variable

-- the region of a value's code, and with the last value's that of the codes past it
pub code_is : (i last n : ℕ) → i ≤ last → is_spelled false (eqb i last) i n ≡ eqb (min n last) i
code_is i last n le = by (cases_eq i last) (cases_order i n)
  where
    at_least : i ≡ last → is_spelled false (eqb i last) i n ≡ leb i n
    at_least e = ap (λ b. is_spelled false b i n) (eq-eqb i last e) ∙ spelled_at_least i n

    alone : (i ≡ last → ⊥) → is_spelled false (eqb i last) i n ≡ eqb n i
    alone o = ap (λ b. is_spelled false b i n) (ne_eqb i last o) ∙ spelled_alone i n

    by : (i ≡ last) ⊎ (i ≡ last → ⊥) → (i ≡ n) ⊎ ((i < n) ⊎ (n < i)) → is_spelled false (eqb i last) i n ≡ eqb (min n last) i
    by (inl e) (inl f) = at_least e ∙ le-leb i n (omega arith) ∙ sym (eq-eqb (min n last) i (omega arith))
    by (inl e) (inr (inl f)) = at_least e ∙ le-leb i n (omega arith) ∙ sym (eq-eqb (min n last) i (omega arith))
    by (inl e) (inr (inr f)) = at_least e ∙ lt-leb i n f ∙ sym (ne_eqb (min n last) i (λ g. absurd (omega (arith, g))))
    by (inr o) (inl f) = alone o ∙ eq-eqb n i (sym f) ∙ sym (eq-eqb (min n last) i (omega arith))
    by (inr o) (inr (inl f)) = alone o ∙ ne_eqb n i (λ g. absurd (omega (arith, g))) ∙ sym (ne_eqb (min n last) i (λ g. o (omega (arith, g))))
    by (inr o) (inr (inr f)) = alone o ∙ ne_eqb n i (λ g. absurd (omega (arith, g))) ∙ sym (ne_eqb (min n last) i (λ g. absurd (omega (arith, g))))

module _ (values : List Value) (i last n : ℕ) (value : Value) (le : i ≤ last) (is : (d : Value) → value ≡ get_or values i d) (k : Checked Value) where
  pub value_step : (now new region : Bool) → now ≡ (ltb (min n last) i && same_reading k (Ok (get_or values (min n last) (Number (pos 0))))) → region ≡ is_spelled false (eqb i last) i n
      → new ≡ (now || (same_reading k (Ok value) && region)) → new ≡ (ltb (min n last) (i + 1) && same_reading k (Ok (get_or values (min n last) (Number (pos 0)))))
  value_step now new region e r f = f ∙ (λ j. e j || (same_reading k (Ok value) && (r ∙ code_is i last n le) j)) ∙ by (cases_order (min n last) i)
    where
      one : (a b : Bool) → ((true && a) || (b && false)) ≡ (true && a)
      one true b = refl
      one false true = refl
      one false false = refl

      two : (a b : Bool) → ((false && a) || (b && true)) ≡ b
      two a true = refl
      two a false = refl

      none : (a b : Bool) → ((false && a) || (b && false)) ≡ (false && a)
      none a true = refl
      none a false = refl

      by : (min n last ≡ i) ⊎ ((min n last < i) ⊎ (i < min n last)) → ((ltb (min n last) i && same_reading k (Ok (get_or values (min n last) (Number (pos 0))))) || (same_reading k (Ok value) && eqb (min n last) i)) ≡ (ltb (min n last) (i + 1) && same_reading k (Ok (get_or values (min n last) (Number (pos 0)))))
      by (inl e) =
          (λ j. (le-ltb (min n last) i (omega arith) j && same_reading k (Ok (get_or values (min n last) (Number (pos 0))))) || (same_reading k (Ok value) && eq-eqb (min n last) i e j))
          ∙ two (same_reading k (Ok (get_or values (min n last) (Number (pos 0))))) (same_reading k (Ok value))
          ∙ ap (λ v. same_reading k (Ok v)) (is (Number (pos 0)) ∙ ap (λ m. get_or values m (Number (pos 0))) (sym e))
          ∙ (λ j. sym (lt-ltb (min n last) (i + 1) (omega arith)) j && same_reading k (Ok (get_or values (min n last) (Number (pos 0)))))
      by (inr (inl h)) =
          (λ j. (lt-ltb (min n last) i h j && same_reading k (Ok (get_or values (min n last) (Number (pos 0))))) || (same_reading k (Ok value) && ne_eqb (min n last) i (λ g. absurd (omega (arith, g))) j))
          ∙ one (same_reading k (Ok (get_or values (min n last) (Number (pos 0))))) (same_reading k (Ok value))
          ∙ (λ j. sym (lt-ltb (min n last) (i + 1) (omega arith)) j && same_reading k (Ok (get_or values (min n last) (Number (pos 0)))))
      by (inr (inr h)) =
          (λ j. (le-ltb (min n last) i (omega arith) j && same_reading k (Ok (get_or values (min n last) (Number (pos 0))))) || (same_reading k (Ok value) && ne_eqb (min n last) i (λ g. absurd (omega (arith, g))) j))
          ∙ none (same_reading k (Ok (get_or values (min n last) (Number (pos 0))))) (same_reading k (Ok value))
          ∙ (λ j. sym (le-ltb (min n last) (i + 1) (omega arith)) j && same_reading k (Ok (get_or values (min n last) (Number (pos 0)))))

pub known_variable : (types : List (List Value)) (x : ℕ) → 0 < length (get_or types x []) → x < length types
known_variable types x some = by (cases_lt x (length types))
  where
    by : (x < length types) ⊎ (length types ≤ x) → x < length types
    by (inl h) = h
    by (inr h) = absurd (omega (arith, ap length (get_or_past types x [] h)))

-- a variable of no values reads as 0
pub variable_empty : (c : Coding) (next : Bool) (bits : List Bool) (x : ℕ) → length (values_of c.types x) ≡ 0 → value_in (state_shown c next bits) x ≡ Number (pos 0)
variable_empty c next bits x none = by (cases_lt x (length c.types))
  where
    by : (x < length c.types) ⊎ (length c.types ≤ x) → value_in (state_shown c next bits) x ≡ Number (pos 0)
    by (inl h) = variable_shown c next bits x h ∙ get_or_past (values_of c.types x) (min (code_shown c next bits x) (length (values_of c.types x) - 1)) (Number (pos 0)) (omega (arith, none))
    by (inr h) = variable_unknown c next bits x h

pub value_end : (c : Coding) (next : Bool) (bits : List Bool) (x : ℕ) (values : List Value) (i : ℕ) (k : Checked Value) (now : Bool) → values ≡ values_of c.types x → 0 < length values → length values ≤ i
    → now ≡ (ltb (min (code_shown c next bits x) (length values - 1)) i && same_reading k (Ok (get_or values (min (code_shown c next bits x) (length values - 1)) (Number (pos 0)))))
    → now ≡ (same_reading k (Ok (value_in (state_shown c next bits) x)) || false)
value_end c next bits x values i k now is some le e =
    e ∙ ap (λ b. b && same_reading k (Ok (get_or values (min (code_shown c next bits x) (length values - 1)) (Number (pos 0))))) (lt-ltb (min (code_shown c next bits x) (length values - 1)) i (omega arith))
    ∙ ap (λ v. same_reading k (Ok v)) (same ∙ sym (variable_shown c next bits x known))
    ∙ or_none (same_reading k (Ok (value_in (state_shown c next bits) x)))
  where
    or_none : (a : Bool) → a ≡ (a || false)
    or_none true = refl
    or_none false = refl

    known : x < length c.types
    known = known_variable c.types x (omega (arith, ap length is))

    same : get_or values (min (code_shown c next bits x) (length values - 1)) (Number (pos 0)) ≡ value_shown c next bits x
    same = ap (λ vs. get_or vs (min (code_shown c next bits x) (length vs - 1)) (Number (pos 0))) is
