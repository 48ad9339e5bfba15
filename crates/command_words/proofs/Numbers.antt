-- Which words write a number in a range, and what `parse` reads of them.
use Rattle.std.proofs.Common.{zero, suc, ◌∙◌, ◌≡◌, ℕ, ◌<◌, ◌≤◌, ◌^◌, Bool, true, false, cond, ◌&&◌, nat_le, List, get_or, Option, Some, None, decimal, bytes_eq, refl, sym, ap, subst, arith}
use Rattle.std.specs.Str.Parse.{IsNumeral, digits_value, AllDigits, without_leading_plus}
use Rattle.std.proofs.lemmas.Fmt.{decimal_is_IsNumeral, decimal-digits_value, decimal_digit, first_decimal}
use Rattle.std.proofs.lemmas.Str.Parse.{numerals_by_value, tells_digits, digit_at, without_leading_plus_none, IsNumeralModel}
use Rattle.std.proofs.lemmas.Slice.Eq.{bytes_eq-Decides}
use Rattle.std.proofs.lemmas.Bool.{leb-true, le-leb}
use Rattle.command_words.specs.Number.{number_of}

-- the first byte is a digit other than 0
abbrev pub BeginsWithNonzero : List ℕ → Type 0
BeginsWithNonzero word = (48 < get_or word 0 0) × (get_or word 0 0 ≤ 57)

own : IsNumeralModel (AllDigits 10) (digits_value 10)
own = numerals_by_value _ tells_digits

module _ (most : ℕ) (fits : most < 2 ^ 32) where
  -- a word that writes a number is its decimal
  pub number_is_decimal : (word : List ℕ) (n : ℕ) → number_of most word ≡ Some n → (word ≡ decimal n) × (1 ≤ n) × (n ≤ most)
  number_is_decimal word n = go (bytes_eq word (decimal number)) (nat_le 1 number) (nat_le number most) refl refl refl
    where
      number : ℕ
      number = digits_value 10 word

      go : (same low high : Bool) → bytes_eq word (decimal number) ≡ same → nat_le 1 number ≡ low → nat_le number most ≡ high
          → cond (same && low && high) (Some number) None ≡ Some n → (word ≡ decimal n) × (1 ≤ n) × (n ≤ most)
      go false low high a b c e = cc
      go true false high a b c e = cc
      go true true false a b c e = cc
      go true true true a b c e =
          let same : number ≡ n = cc in
          subst (λ m. (word ≡ decimal m) × (1 ≤ m) × (m ≤ most)) same ((bytes_eq-Decides word _).0 a, leb-true 1 number b, leb-true number most c)

  -- a word that is the decimal of no number in the range writes no number
  pub no_number : (word : List ℕ) → ((n : ℕ) → 1 ≤ n → n ≤ most → word ≡ decimal n → ⊥) → None ≡ number_of most word
  no_number word none = go (number_of most word) refl
    where
      go : (number : Option ℕ) → number_of most word ≡ number → None ≡ number_of most word
      go None e = sym e
      go (Some n) e = let told = number_is_decimal word n e in absurd (none n told.1 told.2 told.0)

  decimal_begins : (n : ℕ) → 1 ≤ n → n < 2 ^ 64 → BeginsWithNonzero (decimal n)
  decimal_begins n low small =
      let numeral = (decimal_is_IsNumeral n small).0 in
      (first_decimal n (omega (arith, fits)) small, (digit_at (decimal n) 0 numeral.1 numeral.0).1)

  pub other_start : (word : List ℕ) → (BeginsWithNonzero word → ⊥) → None ≡ number_of most word
  other_start word other =
      no_number word (λ n low high e. other (subst BeginsWithNonzero (sym e) (decimal_begins n low (omega (arith, fits)))))

  -- what `parse` reads at 32 bits, of a word with no plus sign
  abbrev pub IsRead : List ℕ → Type 0
  IsRead word = IsNumeral 10 word × (digits_value 10 word < 2 ^ 32)

  no_plus : (word : List ℕ) → BeginsWithNonzero word → without_leading_plus word ≡ word
  no_plus word begins = without_leading_plus_none word (λ e. omega (arith, fits))

  decimal_read : (n : ℕ) → n ≤ most → IsRead (decimal n)
  decimal_read n high =
      let told = decimal_is_IsNumeral n (omega (arith, fits)) in
      (told.0, omega (arith, fits))

  pub unread : (word : List ℕ) → BeginsWithNonzero word → (IsRead (without_leading_plus word) → ⊥) → None ≡ number_of most word
  unread word begins fails =
      no_number word (λ n low high e. fails (subst IsRead (sym e ∙ sym (no_plus word begins)) (decimal_read n high)))

  positive : (word : List ℕ) (n : ℕ) → BeginsWithNonzero word → decimal n ≡ word → 1 ≤ n
  positive word zero begins e =
      let first = subst BeginsWithNonzero (sym e ∙ decimal_digit 0 (omega (arith, fits))) begins in
      absurd (omega (arith, first.0))
  positive word (suc n) begins e = omega (arith, fits)

  number_at : (word : List ℕ) → decimal (digits_value 10 word) ≡ word → 1 ≤ digits_value 10 word → digits_value 10 word ≤ most
      → Some (digits_value 10 word) ≡ number_of most word
  number_at word e low high =
      let same = (bytes_eq-Decides word (decimal (digits_value 10 word))).1 (sym e) in
      rw (same, le-leb 1 _ low, le-leb _ most high) refl

  pub read : (word : List ℕ) (n : ℕ) → BeginsWithNonzero word → IsRead (without_leading_plus word)
      → n ≡ digits_value 10 (without_leading_plus word) → n ≤ most → Some n ≡ number_of most word
  read word n begins told value high =
      let plain = no_plus word begins in
      let here = subst IsRead plain told in
      let number : n ≡ digits_value 10 word = value ∙ ap (digits_value 10) plain in
      let e = decimal-digits_value own word here.0.1 here.0.0 (λ zero. absurd (omega (arith, fits))) (omega (arith, fits)) in
      ap Some number ∙ number_at word e (positive word _ begins e) (omega (arith, fits))

  -- the decimal of each number in the range writes it
  pub number_of-decimal : (n : ℕ) → 1 ≤ n → n ≤ most → number_of most (decimal n) ≡ Some n
  number_of-decimal n low high =
      let value = (decimal_is_IsNumeral n (omega (arith, fits))).1 in
      sym (number_at (decimal n) (ap decimal value) (omega (arith, fits)) (omega (arith, fits))) ∙ ap Some value
