-- The bits of a pair of states show these two states.
use Rattle.std.proofs.Common.{◌≡◌, ◌⊎◌, ℕ, zero, suc, ◌+◌, ◌-◌, ◌*◌, ◌<◌, ◌≤◌, min, Bool, true, false, cond, List, [], ◌∷◌, length, get_or, take, drop, pos, inl, inr, refl, sym, ap, ◌∙◌, arith}
use Rattle.std.specs.List.{slice_index_or}
use Rattle.std.proofs.lemmas.Bool.{cases_lt}
use Rattle.std.proofs.lemmas.List.{drop_more, ext_get_or}
use Rattle.kripke_model.specs.declared.expressions.Value.{Value}
use Rattle.kripke_model.specs.declared.expressions.Value.TheVariants.{Number}
use Rattle.kripke_model.specs.System.{State, value_in}
use Rattle.bit_encode.specs.Binary.{number}
use Rattle.bit_encode.specs.Code.{Coding, IsStateOf, values_of, width_of, place, code, field, first_bit, bit_count}
use Rattle.bit_encode.specs.Laws.{CodesAreValid, FieldsSpell, PlacesWithin}
use Rattle.bit_encode.proofs.CodeLemmas.{place-lt, value_at_place}
use Rattle.variable_codes.specs.Levels.{level_at, bits_from}
use Rattle.value_tables.specs.States.{code_shown, value_shown, state_shown, alternated, pair_code}
use Rattle.value_tables.proofs.ShownLemmas.{variable_shown, length-shown}

-- the bits at even places, and those at odd ones
at_even : (xs ys : List Bool) (p : ℕ) → length xs ≡ length ys → get_or (alternated xs ys) (2 * p) false ≡ get_or xs p false
at_even [] ys p e = refl
at_even (x ∷ xs) [] p e = absurd (omega (arith, e))
at_even (x ∷ xs) (y ∷ ys) zero e = refl
at_even (x ∷ xs) (y ∷ ys) (suc p) e = ap (λ n. get_or (x ∷ y ∷ alternated xs ys) n false) (double p) ∙ at_even xs ys p (omega (arith, e))
  where
    double : (p : ℕ) → 2 * suc p ≡ suc (suc (2 * p))
    double p = omega arith

at_odd : (xs ys : List Bool) (p : ℕ) → length xs ≡ length ys → get_or (alternated xs ys) (2 * p + 1) false ≡ get_or ys p false
at_odd [] [] p e = refl
at_odd [] (y ∷ ys) p e = absurd (omega (arith, e))
at_odd (x ∷ xs) [] p e = absurd (omega (arith, e))
at_odd (x ∷ xs) (y ∷ ys) zero e = refl
at_odd (x ∷ xs) (y ∷ ys) (suc p) e = ap (λ n. get_or (x ∷ y ∷ alternated xs ys) n false) (double p) ∙ at_odd xs ys p (omega (arith, e))
  where
    double : (p : ℕ) → 2 * suc p + 1 ≡ suc (suc (2 * p + 1))
    double p = omega arith

at_level : (c : Coding) (next : Bool) (x b : ℕ) (xs ys : List Bool) → length xs ≡ length ys → slice_index_or (alternated xs ys) (level_at c next x b) false ≡ get_or (cond next ys xs) (first_bit c x + b) false
at_level c true x b xs ys e = at_odd xs ys (first_bit c x + b) e
at_level c false x b xs ys e = ap (λ n. get_or (alternated xs ys) n false) (omega arith) ∙ at_even xs ys (first_bit c x + b) e

bits_as : (c : Coding) (next : Bool) (x b m : ℕ) (xs ys zs : List Bool) → length xs ≡ length ys → zs ≡ cond next ys xs → first_bit c x + b + m ≤ length zs → bits_from c next x (alternated xs ys) b m ≡ take m (drop (first_bit c x + b) zs)
bits_as c next x b zero xs ys zs e is le = refl
bits_as c next x b (suc m) xs ys zs e is le =
    (λ i. at_level c next x b xs ys e i ∷ bits_as c next x (b + 1) m xs ys zs e is (omega arith) i)
    ∙ (λ i. get_or (sym is i) (first_bit c x + b) false ∷ take m (drop (same i) zs))
    ∙ sym (ap (take (suc m)) (drop_more zs (first_bit c x + b) false (omega arith)))
  where
    same : first_bit c x + (b + 1) ≡ first_bit c x + b + 1
    same = omega arith

module _ (c : Coding) (valid : CodesAreValid c) (spell : FieldsSpell c) (within : PlacesWithin c) where
  inside : (x : ℕ) → x < length c.types → (first_bit c x + width_of c.types x ≤ bit_count c.types) ⊎ (width_of c.types x ≡ 0)
  inside x known = by (cases_lt 0 (width_of c.types x))
    where
      by : (0 < width_of c.types x) ⊎ (width_of c.types x ≤ 0) → (first_bit c x + width_of c.types x ≤ bit_count c.types) ⊎ (width_of c.types x ≡ 0)
      by (inl some) = let last = within x (width_of c.types x - 1) record { known = known; within = omega arith } in inl (omega (arith, last))
      by (inr none) = inr (omega arith)

  field_shown : (next : Bool) (x : ℕ) (xs ys zs : List Bool) → length xs ≡ bit_count c.types → length ys ≡ bit_count c.types → zs ≡ cond next ys xs → length zs ≡ bit_count c.types → x < length c.types
      → bits_from c next x (alternated xs ys) 0 (width_of c.types x) ≡ field c x zs
  field_shown next x xs ys zs ex ey is ez known = by (inside x known)
    where
      first : first_bit c x + 0 ≡ first_bit c x
      first = omega arith

      by : (first_bit c x + width_of c.types x ≤ bit_count c.types) ⊎ (width_of c.types x ≡ 0) → bits_from c next x (alternated xs ys) 0 (width_of c.types x) ≡ take (width_of c.types x) (drop (first_bit c x) zs)
      by (inl le) = bits_as c next x 0 (width_of c.types x) xs ys zs (ex ∙ sym ey) is (omega arith) ∙ ap (λ n. take (width_of c.types x) (drop n zs)) first
      by (inr e) = (λ i. bits_from c next x (alternated xs ys) 0 (e i)) ∙ (λ i. take (sym e i) (drop (first_bit c x) zs))

  module _ (s t u : State) (next : Bool) (hs : IsStateOf c.types s) (ht : IsStateOf c.types t) (hu : IsStateOf c.types u) (is : code c u ≡ cond next (code c t) (code c s)) where
    shown_value : (x : ℕ) → x < length c.types → value_shown c next (pair_code c s t) x ≡ value_in u x
    unfolding code_shown
    shown_value x known =
        let values : List Value = values_of c.types x in
        let there = hu.typed x known in
        let at : code_shown c next (pair_code c s t) x ≡ place values (value_in u x) =
        ap number (field_shown next x (code c s) (code c t) (code c u) (valid s hs).long (valid t ht).long is (valid u hu).long known) ∙ spell u x hu known in
        let less : place values (value_in u x) < length values = place-lt values (value_in u x) there in
        let low : min (place values (value_in u x)) (length values - 1) ≡ place values (value_in u x) = omega (arith, less) in
        ap (λ n. get_or values (min n (length values - 1)) (Number (pos 0))) at ∙ ap (λ n. get_or values n (Number (pos 0))) low ∙ value_at_place values (value_in u x) (Number (pos 0)) there

    pub shown_state : state_shown c next (pair_code c s t) ≡ u
    shown_state =
        ext_get_or (Number (pos 0)) (state_shown c next (pair_code c s t)) u (length-shown c next (pair_code c s t) 0 (length c.types) ∙ sym hu.each)
        (λ x lt. let known : x < length c.types = omega (arith, lt, length-shown c next (pair_code c s t) 0 (length c.types)) in
        variable_shown c next (pair_code c s t) x known ∙ shown_value x known)
