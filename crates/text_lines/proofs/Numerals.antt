-- Which words write a number of 32 bits, and what `parse` reads of them.
use Rattle.std.proofs.Common.{◌≡◌, ℕ, zero, suc, ◌<◌, ◌≤◌, ◌^◌, ◌∙◌, List, [], length, get_or, decimal, refl, sym, ap, subst, arith}
use Rattle.std.specs.Prelude.{Contains}
use Rattle.std.specs.Str.Parse.{IsNumeral, digits_value, AllDigits, without_leading_plus}
use Rattle.std.proofs.lemmas.List.{get_or_default}
use Rattle.std.proofs.lemmas.Fmt.{decimal_is_IsNumeral, decimal-digits_value, decimal_digit, first_decimal, decimal_nonempty, IsAscii-decimal}
use Rattle.std.specs.Str.{IsUtf8}
use Rattle.std.proofs.lemmas.Str.{IsUtf8-from_ascii}
use Rattle.std.proofs.lemmas.Str.Parse.{numerals_by_value, tells_digits, digit_at, without_leading_plus_none, IsNumeralModel}
use Rattle.text_lines.specs.Number.{IsPlainStart}

own : IsNumeralModel (AllDigits 10) (digits_value 10)
own = numerals_by_value _ tells_digits

-- what `parse` reads at 32 bits, of a word with no plus sign
abbrev pub IsRead : List ℕ → Type 0
IsRead word = IsNumeral 10 word × (digits_value 10 word < 2 ^ 32)

decimal_start : (n : ℕ) → n < 2 ^ 32 → IsPlainStart (decimal n)
decimal_start zero small =
    let e = decimal_digit 0 (omega arith) in
    subst IsPlainStart (sym e) (record { low = omega arith; high = omega arith; alone = λ _. refl })
decimal_start (suc n) small =
    let numeral = (decimal_is_IsNumeral (suc n) (omega arith)).0 in
    let first = digit_at (decimal (suc n)) 0 numeral.1 numeral.0 in
    let more = first_decimal (suc n) (omega arith) (omega arith) in
    record { low = omega (arith, more); high = first.1; alone = λ e. absurd (omega (arith, more, e)) }

decimal_read : (n : ℕ) → n < 2 ^ 32 → IsRead (decimal n)
decimal_read n small = let told = decimal_is_IsNumeral n (omega arith) in (told.0, omega arith)

no_plus : (word : List ℕ) → IsPlainStart word → without_leading_plus word ≡ word
no_plus word start = without_leading_plus_none word (λ e. omega (arith, start.low, e))

-- a word that starts otherwise writes none
pub other_start : (word : List ℕ) → (IsPlainStart word → ⊥) → (n : ℕ) → n ≤ 4294967295 → word ≡ decimal n → ⊥
other_start word other n small e = other (subst IsPlainStart (sym e) (decimal_start n (omega arith)))

-- and so does one that `parse` doesn't read
pub unread : (word text : List ℕ) → text ≡ word → IsPlainStart word → (IsRead (without_leading_plus text) → ⊥) → (n : ℕ) → n ≤ 4294967295 → word ≡ decimal n → ⊥
unread word text same start fails n small e =
    fails (subst IsRead (sym e ∙ sym (no_plus word start) ∙ ap without_leading_plus (sym same)) (decimal_read n (omega arith)))

-- what isn't text writes none
pub no_text : (word : List ℕ) → (IsUtf8 word → ⊥) → (n : ℕ) → n ≤ 4294967295 → word ≡ decimal n → ⊥
no_text word other n small e = other (subst IsUtf8 (sym e) (IsUtf8-from_ascii (decimal n) (IsAscii-decimal n (omega arith))))

-- what it reads is the number
pub read : (word text : List ℕ) (n : ℕ) → text ≡ word → IsPlainStart word → IsRead (without_leading_plus text) → n ≡ digits_value 10 (without_leading_plus text) → word ≡ decimal n
read word text n same start told value =
    let plain : without_leading_plus text ≡ word = ap without_leading_plus same ∙ no_plus word start in
    let here = subst IsRead plain told in
    let number : n ≡ digits_value 10 word = value ∙ ap (digits_value 10) plain in
    sym (ap decimal number ∙ decimal-digits_value own word here.0.1 here.0.0 start.alone (omega (arith, here.1)))

-- ---- a number is one word of one line

pub decimal_some : (n : ℕ) → n < 2 ^ 64 → decimal n ≡ [] → ⊥
decimal_some n small e = omega (arith, decimal_nonempty n small, ap length e)

-- each byte is a digit
pub decimal_bytes : (n : ℕ) → n < 2 ^ 64 → (c : ℕ) → Contains (decimal n) c → (48 ≤ c) × (c ≤ 57)
decimal_bytes n small c h = go (digit_at (decimal n) h.0 (decimal_is_IsNumeral n small).0.1 h.1)
  where
    go : (48 ≤ get_or (decimal n) h.0 0) × (get_or (decimal n) h.0 0 ≤ 57) → (48 ≤ c) × (c ≤ 57)
    go d = let e : get_or (decimal n) h.0 0 ≡ c = get_or_default (decimal n) h.0 0 c h.1 ∙ h.2 in subst (λ x. (48 ≤ x) × (x ≤ 57)) e d

pub decimal_word : (n : ℕ) → n < 2 ^ 64 → Contains (decimal n) 32 → ⊥
decimal_word n small h = omega (arith, (decimal_bytes n small 32 h).0)

pub decimal_line : (n : ℕ) → n < 2 ^ 64 → Contains (decimal n) 10 → ⊥
decimal_line n small h = omega (arith, (decimal_bytes n small 10 h).0)
