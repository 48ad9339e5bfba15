-- The model of two ranges is one that a program can have.
use Rattle.std.proofs.Common.{◌≡◌, ◌≢◌, ℕ, zero, suc, ◌+◌, ◌<◌, ◌≤◌, List, [], ◌∷◌, ◌++◌, length, map, refl, ap, add-one, arith, lit≤, length-append}
use Rattle.std.specs.Prelude.{All, pos}
use Rattle.std.specs.Str.{bytes_eq}
use Rattle.std.proofs.lemmas.List.Elements.{All-nil, All-push, All-weaker, All-get_or, All-from_recursion}
use Rattle.std.proofs.lemmas.List.Quantifiers.{all_pairs_push}
use Rattle.kripke_model.specs.declared.expressions.Value.{Value}
use Rattle.kripke_model.specs.declared.expressions.Value.TheVariants.{Number}
use Rattle.kripke_model.specs.Evaluable.{IsKnown}
use Rattle.kripke_model.specs.Names.{IsAtom, IsVariableName}
use Rattle.kripke_model.specs.System.{Variable}
use Rattle.kripke_model.specs.Flat.{IsFlat, AreDistinct, IsWellTyped}
use Rattle.bit_encode.specs.Rows.{variable}
use Rattle.bit_encode.proofs.RowLemmas.{flat_with, distinct_by, name_of, bytes_self}
use Rattle.work_bench.specs.Ranges.{numbers, range_model}

pub length-numbers : (n : ℕ) → length (numbers n) ≡ n
unfolding numbers
length-numbers zero = refl
length-numbers (suc n) = omega (arith, length-append (numbers n) (Number (pos n) ∷ []), length-numbers n)

pub numbers-more : (n : ℕ) → numbers (n + 1) ≡ numbers n ++ Number (pos n) ∷ []
unfolding numbers
numbers-more n = ap numbers (add-one n)

pub numbers-none : numbers 0 ≡ []
unfolding numbers
numbers-none = refl

abbrev IsLess : ℕ → Value → Type 0
IsLess n v = (m : ℕ) → n ≤ m → v ≢ Number (pos m)

below : (n : ℕ) → All (IsLess n) (numbers n)
unfolding numbers
below zero = All-nil (IsLess zero)
below (suc n) =
    All-push (IsLess (suc n)) (numbers n) (Number (pos n)) (All-weaker (IsLess n) (IsLess (suc n)) (λ v h m le. h m (omega arith)) (numbers n) (below n))
    (λ m le e. let same : n ≡ m = cc in absurd (omega arith))

distinct : (n : ℕ) → AreDistinct (numbers n)
unfolding numbers
distinct zero = λ i j d less inside. absurd (omega arith)
distinct (suc n) =
    all_pairs_push (λ a b. a ≢ b) (numbers n) (Number (pos n)) (distinct n)
    (λ k d lt. All-get_or (IsLess n) (numbers n) k d lt (below n) n (omega arith))

known : (n m : ℕ) → All (IsKnown (range_model m)) (numbers n)
unfolding numbers
known zero m = All-nil (IsKnown (range_model m))
known (suc n) m = All-push (IsKnown (range_model m)) (numbers n) (Number (pos n)) (known n m) tt

typed : (name : List ℕ) (n : ℕ) → 0 < n → IsWellTyped (variable name (numbers n)) (range_model n)
typed name n some = record { some_value = omega (arith, length-numbers n); distinct = distinct n; known = known n n }

pub flat_ranges : (n : ℕ) → 0 < n → n ≤ 1024 → IsFlat (range_model n)
flat_ranges n some few =
    let vars : List Variable = (range_model n).vars in
    let short : length (numbers n) ≤ 1024 = omega (arith, length-numbers n) in
    flat_with [] vars (lit≤ tt)
    (All-from_recursion (λ (v : Variable). length v.values ≤ 1024) vars (short, (short, tt)))
    (All-from_recursion IsAtom [] tt)
    (distinct_by bytes_eq bytes_self [] refl)
    (All-from_recursion (λ (v : Variable). IsVariableName v.name) vars (name_of (120 ∷ []) refl, (name_of (121 ∷ []) refl, tt)))
    (distinct_by bytes_eq bytes_self (map (λ (v : Variable). v.name) vars) refl)
    (All-from_recursion (λ (v : Variable). IsWellTyped v (range_model n)) vars (typed (120 ∷ []) n some, (typed (121 ∷ []) n some, tt)))
