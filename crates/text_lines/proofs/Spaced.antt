-- A text is one list of words.
use Rattle.std.proofs.Common.{◌≡◌, inl, inr, ℕ, zero, suc, ◌==◌, false, List, [], ◌∷◌, ◌++◌, refl, sym, ◌∙◌, ap, subst, arith, length, rules, tests}
use Rattle.std.specs.Prelude.{All}
use Rattle.std.specs.List.{join_with_byte, onto_first}
use Rattle.std.proofs.lemmas.Bool.{cases_eq}
use Rattle.std.proofs.lemmas.List.Elements.{All-nil, All-cons, All-head, All-tail}
use Rattle.std.proofs.lemmas.List.Splits.{slice_split-cons_no, slice_split_none, slice_split_at, length-slice_split, join_with_byte-slice_split}
use Rattle.text_lines.specs.Words.{IsOneWord, AreWords, words_in}

other_test : (c d : ℕ) → (c ≡ d → ⊥) → (c == d) ≡ false
other_test c d other = search (rules, tests)

-- no byte of a word is a space
no_space : (word : List ℕ) → IsOneWord word → All (λ c. (c == 32) ≡ false) word
no_space [] one = All-nil (λ c. (c == 32) ≡ false)
no_space (c ∷ word) one =
    All-cons (λ c. (c == 32) ≡ false) c word (other_test c 32 (λ e. one (0, omega arith, e)))
    (no_space word (λ h. one (suc h.0, omega (arith, h.1), h.2)))

-- a word and a space in front
pub word_first : (word behind : List ℕ) → IsOneWord word → words_in (word ++ 32 ∷ behind) ≡ word ∷ words_in behind
word_first word behind one = slice_split_at (λ c. c == 32) word 32 behind (no_space word one) refl

-- a word alone
pub word_alone : (word : List ℕ) → IsOneWord word → words_in word ≡ word ∷ []
word_alone word one = slice_split_none (λ c. c == 32) word (no_space word one)

-- the words of words with one space between
pub words_of_joined : (words : List (List ℕ)) → All IsOneWord words → (words ≡ [] → ⊥) → words_in (join_with_byte 32 words) ≡ words
words_of_joined [] each some = absurd (some refl)
words_of_joined (word ∷ []) each some = word_alone word (All-head IsOneWord word [] each)
words_of_joined (word ∷ next ∷ words) each some =
    word_first word (join_with_byte 32 (next ∷ words)) (All-head IsOneWord word (next ∷ words) each)
    ∙ ap (λ ws. word ∷ ws) (words_of_joined (next ∷ words) (All-tail IsOneWord word (next ∷ words) each) (λ e. cc))

pub are_words_in : (text : List ℕ) (words : List (List ℕ)) → AreWords text words → words_in text ≡ words
are_words_in text words w = ap words_in w.joined ∙ words_of_joined words w.each w.some

pub words_unique : (text : List ℕ) (ws vs : List (List ℕ)) → AreWords text ws → AreWords text vs → ws ≡ vs
words_unique text ws vs w v = sym (are_words_in text ws w) ∙ are_words_in text vs v

-- words with one space between
pub joined_words : (words : List (List ℕ)) → All IsOneWord words → (words ≡ [] → ⊥) → AreWords (join_with_byte 32 words) words
joined_words words each some = record { joined = refl; each = each; some = some }

-- ---- each text is some words

empty_word : IsOneWord []
empty_word h = omega (arith, h.1)

word_more : (c : ℕ) (word : List ℕ) → (c ≡ 32 → ⊥) → IsOneWord word → IsOneWord (c ∷ word)
word_more c word other one (zero, less, e) = other e
word_more c word other one (suc k, less, e) = one (k, omega arith, e)

each_word : (text : List ℕ) → All IsOneWord (words_in text)
each_word [] = All-cons IsOneWord [] [] empty_word (All-nil IsOneWord)
each_word (c ∷ text) = elim (cases_eq c 32) [ inl at ↦ at_space at (each_word text) | inr other ↦ at_byte other (each_word text) ]
  where
    at_space : c ≡ 32 → All IsOneWord (words_in text) → All IsOneWord (words_in (c ∷ text))
    at_space e each = subst (λ x. All IsOneWord (words_in (x ∷ text))) (sym e) (All-cons IsOneWord [] (words_in text) empty_word each)

    onto : (other : c ≡ 32 → ⊥) (words : List (List ℕ)) → All IsOneWord words → All IsOneWord (onto_first c words)
    onto other [] each = All-cons IsOneWord (c ∷ []) [] (word_more c [] other empty_word) (All-nil IsOneWord)
    onto other (word ∷ words) each = All-cons IsOneWord (c ∷ word) words (word_more c word other (All-head IsOneWord word words each)) (All-tail IsOneWord word words each)

    at_byte : (c ≡ 32 → ⊥) → All IsOneWord (words_in text) → All IsOneWord (words_in (c ∷ text))
    at_byte other each = subst (All IsOneWord) (sym (slice_split-cons_no (λ x. x == 32) c text (other_test c 32 other))) (onto other (words_in text) each)

pub words_are : (text : List ℕ) → AreWords text (words_in text)
words_are text = record {
  joined = sym (join_with_byte-slice_split 32 text);
  each = each_word text;
  some = λ e. omega (arith, length-slice_split (λ c. c == 32) text, ap length e);
}
