-- Words without spaces and line feeds, and lines of such words.
use Rattle.std.proofs.Common.{◌≡◌, ℕ, zero, suc, ◌/◌, ◌%◌, ◌<◌, ◌≤◌, ◌==◌, Bool, true, false, cond, ◌&&◌, leb, List, [], ◌∷◌, ◌++◌, length, map, decimal, ℤ, pos, negsuc, refl, sym, ◌∙◌, ap, arith}
use Rattle.std.specs.Prelude.{All, Contains}
use Rattle.std.specs.Fmt.{signed_decimal, digits, digits_onto, digit_glyph}
use Rattle.std.specs.List.{join_with_byte}
use Rattle.std.proofs.lemmas.Bool.{and_from, le-leb, leb-true}
use Rattle.std.proofs.lemmas.List.Elements.{All-nil, All-cons, All-head, All-tail}
use Rattle.proof_text.specs.Lines.{Line, words_of, line_text}
use Rattle.text_lines.specs.WholeLines.{IsOneLine}
use Rattle.text_lines.specs.Words.{IsOneWord, words_in}
use Rattle.text_lines.proofs.Lists.{same_first, same_rest}
use Rattle.text_lines.proofs.Spaced.{words_of_joined}

-- each byte is one that is seen
abbrev pub is_plain : List ℕ → Bool
is_plain [] = true
is_plain (c ∷ word) = leb 33 c && is_plain word

abbrev pub are_plain : List (List ℕ) → Bool
are_plain [] = true
are_plain (word ∷ words) = is_plain word && are_plain words

pub parts_of_and : (x y : Bool) → (x && y) ≡ true → (x ≡ true) × (y ≡ true)
parts_of_and true y e = (refl, e)
parts_of_and false y e = absurd cc

pub plain_byte : (c : ℕ) (word : List ℕ) → 33 ≤ c → is_plain word ≡ true → is_plain (c ∷ word) ≡ true
plain_byte c word le e = and_from (leb 33 c) (is_plain word) (le-leb 33 c le) e

pub plain_append : (a b : List ℕ) → is_plain a ≡ true → is_plain b ≡ true → is_plain (a ++ b) ≡ true
plain_append [] b p q = q
plain_append (c ∷ a) b p q =
    let h = parts_of_and (leb 33 c) (is_plain a) p in
    and_from (leb 33 c) (is_plain (a ++ b)) h.0 (plain_append a b h.1 q)

pub words_append : (a b : List (List ℕ)) → are_plain a ≡ true → are_plain b ≡ true → are_plain (a ++ b) ≡ true
words_append [] b p q = q
words_append (w ∷ a) b p q =
    let h = parts_of_and (is_plain w) (are_plain a) p in
    and_from (is_plain w) (are_plain (a ++ b)) h.0 (words_append a b h.1 q)

-- ---- numbers

plain_glyph : (d : ℕ) → d < 10 → 33 ≤ digit_glyph false d
plain_glyph d less = grind arith

plain_onto : (k n : ℕ) (acc : List ℕ) → is_plain acc ≡ true → is_plain (digits_onto k 10 false n acc) ≡ true
plain_onto zero n acc p = p
plain_onto (suc k) n acc p =
    let one : is_plain (digit_glyph false (n % 10) ∷ acc) ≡ true = plain_byte (digit_glyph false (n % 10)) acc (plain_glyph (n % 10) (omega arith)) p in
    go (n / 10 == 0) one (plain_onto k (n / 10) (digit_glyph false (n % 10) ∷ acc) one)
  where
    go : (b : Bool) → is_plain (digit_glyph false (n % 10) ∷ acc) ≡ true → is_plain (digits_onto k 10 false (n / 10) (digit_glyph false (n % 10) ∷ acc)) ≡ true
        → is_plain (cond b (digit_glyph false (n % 10) ∷ acc) (digits_onto k 10 false (n / 10) (digit_glyph false (n % 10) ∷ acc))) ≡ true
    go true p q = p
    go false p q = q

pub plain_decimal : (n : ℕ) → is_plain (decimal n) ≡ true
unfolding digits
plain_decimal n = plain_onto 64 n [] refl

pub plain_signed : (i : ℤ) → is_plain (signed_decimal i) ≡ true
plain_signed (pos n) = plain_decimal n
plain_signed (negsuc n) = plain_byte 45 (decimal (suc n)) (omega arith) (plain_decimal (suc n))

-- ---- lines

abbrev pub IsPlainLine : Line → Type 0
IsPlainLine l = (are_plain (words_of l) ≡ true) × (words_of l ≡ [] → ⊥)

lacks : (c : ℕ) → c < 33 → (word : List ℕ) → is_plain word ≡ true → Contains word c → ⊥
lacks c small [] p h = omega (arith, h.1)
lacks c small (b ∷ word) p (zero, less, e) = let q = leb-true 33 b (parts_of_and (leb 33 b) (is_plain word) p).0 in omega (arith, q, e, small)
lacks c small (b ∷ word) p (suc k, less, e) = lacks c small word (parts_of_and (leb 33 b) (is_plain word) p).1 (k, omega (arith, less), e)

pub each_word : (words : List (List ℕ)) → are_plain words ≡ true → All IsOneWord words
each_word [] p = All-nil IsOneWord
each_word (word ∷ words) p =
    let h = parts_of_and (is_plain word) (are_plain words) p in
    All-cons IsOneWord word words (lacks 32 (omega arith) word h.0) (each_word words h.1)

-- no byte of the words with spaces between is a line feed
no_feed : (a b : List ℕ) → is_plain a ≡ true → IsOneLine b → IsOneLine (a ++ b)
no_feed [] b p q h = q h
no_feed (c ∷ a) b p q (zero, less, e) = let h = leb-true 33 c (parts_of_and (leb 33 c) (is_plain a) p).0 in omega (arith, h, e)
no_feed (c ∷ a) b p q (suc k, less, e) = no_feed a b (parts_of_and (leb 33 c) (is_plain a) p).1 q (k, omega (arith, less), e)

behind_space : (b : List ℕ) → IsOneLine b → IsOneLine (32 ∷ b)
behind_space b q (zero, less, e) = omega (arith, e)
behind_space b q (suc k, less, e) = q (k, omega (arith, less), e)

joined_line : (words : List (List ℕ)) → are_plain words ≡ true → IsOneLine (join_with_byte 32 words)
joined_line [] p h = omega (arith, h.1)
joined_line (word ∷ []) p h = lacks 10 (omega arith) word (parts_of_and (is_plain word) true p).0 h
joined_line (word ∷ next ∷ words) p found =
    let h = parts_of_and (is_plain word) (are_plain (next ∷ words)) p in
    no_feed word (32 ∷ join_with_byte 32 (next ∷ words)) h.0 (behind_space (join_with_byte 32 (next ∷ words)) (joined_line (next ∷ words) h.1)) found

pub each_line : (lines : List Line) → All IsPlainLine lines → All IsOneLine (map line_text lines)
each_line [] p = All-nil IsOneLine
each_line (l ∷ lines) p =
    All-cons IsOneLine (line_text l) (map line_text lines) (joined_line (words_of l) (All-head IsPlainLine l lines p).0) (each_line lines (All-tail IsPlainLine l lines p))

-- lines with the same texts have the same words
pub same_words : (ks ls : List Line) → All IsPlainLine ks → All IsPlainLine ls → map line_text ks ≡ map line_text ls → map words_of ks ≡ map words_of ls
same_words [] [] p q e = refl
same_words [] (l ∷ ls) p q e = absurd (omega (arith, ap length e))
same_words (k ∷ ks) [] p q e = absurd (omega (arith, ap length e))
same_words (k ∷ ks) (l ∷ ls) p q e =
    let a = All-head IsPlainLine k ks p in
    let b = All-head IsPlainLine l ls q in
    let first : words_of k ≡ words_of l =
    sym (words_of_joined (words_of k) (each_word (words_of k) a.0) a.1)
    ∙ ap (λ (t : List ℕ). words_in t) (same_first (line_text k) (line_text l) (map line_text ks) (map line_text ls) e)
    ∙ words_of_joined (words_of l) (each_word (words_of l) b.0) b.1 in
    let rest = same_words ks ls (All-tail IsPlainLine k ks p) (All-tail IsPlainLine l ls q) (same_rest (line_text k) (line_text l) (map line_text ks) (map line_text ls) e) in
    (λ i. first i ∷ rest i)
