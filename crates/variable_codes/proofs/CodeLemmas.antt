-- Diagrams of codes, bit after bit.
use Rattle.std.proofs.Common.{◌≡◌, ℕ, zero, suc, ◌+◌, ◌-◌, ◌^◌, ◌<◌, ◌≤◌, inl, inr, Bool, true, false, cond, leb, eqb, List, [], ◌∷◌, length, Result, Ok, Err, IfOk, refl, sym, subst, ap, ◌∙◌, arith}
use Rattle.std.specs.List.{slice_index_or}
use Rattle.std.proofs.lemmas.Bool.{lt-leb, le-leb, eq-eqb, ne_eqb, cases_eq, cases_lt}
use Rattle.bdd_nodes.specs.declared.store.Store.{Store}
use Rattle.bdd_nodes.specs.Store.{Has, value_of, Grows, IsNodeOf}
use Rattle.bdd_nodes.proofs.Tables.{value_of-true, value_of-false}
use Rattle.bdd_ops.specs.Kept.{IsRegion}
use Rattle.bdd_ops.proofs.Values.{value-made}
use Rattle.bit_encode.specs.Binary.{number}
use Rattle.bit_encode.specs.Code.{Coding}
use Rattle.bit_encode.proofs.BinaryLemmas.{number-lt}
use Rattle.variable_codes.specs.Codes.{is_spelled}
use Rattle.variable_codes.specs.Levels.{level_at, bits_from}

pub length-bits_from : (c : Coding) (next : Bool) (x : ℕ) (bits : List Bool) (b m : ℕ) → length (bits_from c next x bits b m) ≡ m
length-bits_from c next x bits b zero = refl
length-bits_from c next x bits b (suc m) = ap suc (length-bits_from c next x bits (b + 1) m)

number-cons : (b : Bool) (bs : List Bool) → number (b ∷ bs) ≡ cond b (2 ^ length bs) 0 + number bs
unfolding number
number-cons b bs = refl

-- ---- which numbers are spelled

-- the tests of both numbers agree
same_test : (less more : Bool) (k l n o : ℕ) → (n ≡ k → o ≡ l) → (o ≡ l → n ≡ k) → (n ≤ k → o ≤ l) → (k < n → l < o) → is_spelled less more k n ≡ is_spelled less more l o
same_test less more k l n o to from at_most above = λ j. cond (equal j) true (cond (order j) less more)
  where
    equal : eqb n k ≡ eqb o l
    equal = elim (cases_eq n k) [
      | inl e ↦ eq-eqb n k e ∙ sym (eq-eqb o l (to e))
      | inr e ↦ ne_eqb n k e ∙ sym (ne_eqb o l (λ f. e (from f)))
    ]

    order : leb n k ≡ leb o l
    order = elim (cases_lt k n) [
      | inl e ↦ lt-leb n k e ∙ sym (lt-leb o l (above e))
      | inr e ↦ le-leb n k e ∙ sym (le-leb o l (at_most e))
    ]

is_lesser : (less more : Bool) (k n : ℕ) → n < k → is_spelled less more k n ≡ less
is_lesser less more k n lt = λ j. cond (ne_eqb n k (λ e. absurd (omega arith)) j) true (cond (le-leb n k (omega arith) j) less more)

is_greater : (less more : Bool) (k n : ℕ) → k < n → is_spelled less more k n ≡ more
is_greater less more k n lt = λ j. cond (ne_eqb n k (λ e. absurd (omega arith)) j) true (cond (lt-leb n k lt j) less more)

-- one bit more at the front, where the code has it
spelled_high : (less more : Bool) (k h n : ℕ) (b : Bool) → n < h → h ≤ k → cond b (is_spelled less more (k - h) n) less ≡ is_spelled less more k (cond b h 0 + n)
spelled_high less more k h n true lt le = same_test less more (k - h) k n (h + n) (λ e. omega arith) (λ e. omega arith) (λ e. omega arith) (λ e. omega arith)
spelled_high less more k h n false lt le = sym (is_lesser less more k (0 + n) (omega arith))

-- where it lacks it
spelled_low : (less more : Bool) (k h n : ℕ) (b : Bool) → k < h → cond b more (is_spelled less more k n) ≡ is_spelled less more k (cond b h 0 + n)
spelled_low less more k h n true lt = sym (is_greater less more k (h + n) (omega arith))
spelled_low less more k h n false lt = same_test less more k k n (0 + n) (λ e. omega arith) (λ e. omega arith) (λ e. omega arith) (λ e. omega arith)

spelled_none : (less more : Bool) → is_spelled less more 0 (number []) ≡ true
unfolding number
spelled_none less more = refl

-- a code alone, with the lesser ones, and with the greater ones
pub spelled_alone : (k n : ℕ) → is_spelled false false k n ≡ eqb n k
spelled_alone k n = by (eqb n k) (leb n k)
  where
    by : (a b : Bool) → cond a true (cond b false false) ≡ a
    by true b = refl
    by false true = refl
    by false false = refl

pub spelled_at_most : (k n : ℕ) → is_spelled true false k n ≡ leb n k
spelled_at_most k n = elim (cases_eq n k) [
  | inl e ↦ (λ j. cond (eq-eqb n k e j) true (cond (leb n k) true false)) ∙ sym (le-leb n k (omega arith))
  | inr e ↦ (λ j. cond (ne_eqb n k e j) true (cond (leb n k) true false)) ∙ same (leb n k)
]
  where
    same : (b : Bool) → cond b true false ≡ b
    same true = refl
    same false = refl

pub spelled_at_least : (k n : ℕ) → is_spelled false true k n ≡ leb k n
spelled_at_least k n = elim (cases_lt n k) [
  | inl e ↦ is_lesser false true k n e ∙ sym (lt-leb k n e)
  | inr e ↦ elim (cases_eq n k) [
    | inl f ↦ (λ j. cond (eq-eqb n k f j) true (cond (leb n k) false true)) ∙ sym (le-leb k n e)
    | inr f ↦ is_greater false true k n (omega arith) ∙ sym (le-leb k n e)
  ]
]

-- ---- their diagrams

pub constant_value : (s : Store) (b : Bool) (r : ℕ) → r ≡ cond b 1 0 → (bits : List Bool) → value_of s r bits ≡ b
constant_value s true r e bits = ap (λ x. value_of s x bits) e ∙ value_of-true s.nodes.keys bits
constant_value s false r e bits = ap (λ x. value_of s x bits) e ∙ value_of-false s.nodes.keys bits

pub no_bits : (s : Store) (c : Coding) (next : Bool) (x b m k : ℕ) (less more : Bool) → m ≡ 0 → k < 2 ^ m → IsRegion s 1 (λ bits. is_spelled less more k (number (bits_from c next x bits b m)))
no_bits s c next x b m k less more e lt =
    let p : 2 ^ m ≡ 1 = ap (λ n. 2 ^ n) e in
    let none : k ≡ 0 = omega (arith, p, lt) in
    record {
      has = omega arith;
      value = λ bits. value_of-true s.nodes.keys bits ∙ sym (spelled_none less more) ∙ (λ i. is_spelled less more (sym none i) (number (bits_from c next x bits b (sym e i))));
    }

module _ (s t : Store) (g : Grows s t) (c : Coding) (next : Bool) (x b m k r low high : ℕ) (less more : Bool) (has : Has t r) (made : IsNodeOf t (level_at c next x b) low high r) where
  -- what the first bit and the others say
  abbrev first : List Bool → Bool
  first bits = slice_index_or bits (level_at c next x b) false

  abbrev rest : List Bool → List Bool
  rest bits = bits_from c next x bits (b + 1) m

  whole : (bits : List Bool) → is_spelled less more k (cond (first bits) (2 ^ m) 0 + number (rest bits)) ≡ is_spelled less more k (number (bits_from c next x bits b (suc m)))
  whole bits =
      ap (λ n. is_spelled less more k (cond (first bits) (2 ^ n) 0 + number (rest bits))) (sym (length-bits_from c next x bits (b + 1) m))
      ∙ ap (is_spelled less more k) (sym (number-cons (first bits) (rest bits)))

  pub region_high : 2 ^ m ≤ k → IsRegion s high (λ bits. is_spelled less more (k - 2 ^ m) (number (rest bits))) → ((bits : List Bool) → value_of t low bits ≡ less)
      → IsRegion t r (λ bits. is_spelled less more k (number (bits_from c next x bits b (suc m))))
  region_high le h below = record {
    has = has;
    value = λ bits.
        value-made t.levels t.nodes.keys t.good (level_at c next x b) low high r made.equal made.node bits
        ∙ (λ i. cond (first bits) ((g.value high h.has bits ∙ h.value bits) i) (below bits i))
        ∙ spelled_high less more k (2 ^ m) (number (rest bits)) (first bits) (subst (λ n. number (rest bits) < 2 ^ n) (length-bits_from c next x bits (b + 1) m) (number-lt (rest bits))) le
        ∙ whole bits;
  }

  pub region_low : k < 2 ^ m → IsRegion s low (λ bits. is_spelled less more k (number (rest bits))) → ((bits : List Bool) → value_of t high bits ≡ more)
      → IsRegion t r (λ bits. is_spelled less more k (number (bits_from c next x bits b (suc m))))
  region_low lt h above = record {
    has = has;
    value = λ bits.
        value-made t.levels t.nodes.keys t.good (level_at c next x b) low high r made.equal made.node bits
        ∙ (λ i. cond (first bits) (above bits i) ((g.value low h.has bits ∙ h.value bits) i))
        ∙ spelled_low less more k (2 ^ m) (number (rest bits)) (first bits) lt
        ∙ whole bits;
  }

pub if_ok2 : {T E : Type 0} {P Q R : T → Type 0} (r : Result T E) → IfOk r P → IfOk r Q → ((t : T) → P t → Q t → R t) → IfOk r R
if_ok2 (Ok t) h k f = f t h k
if_ok2 (Err e) h k f = tt
