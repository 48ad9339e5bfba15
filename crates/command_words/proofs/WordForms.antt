-- What a word looks like to clap, and to the definitions.
use Rattle.std.proofs.Common.{◌≡◌, ◌∙◌, ℕ, suc, ◌+◌, ◌==◌, Bool, true, false, cond, List, [], ◌∷◌, ◌++◌, take, drop, codes, bytes_eq, Option, Some, None, refl, sym, ap, arith, eqb-true}
use Rattle.std.specs.List.{list_any, before_first, after_first, position_or_len, slice_get}
use Rattle.std.specs.Str.{IsUtf8, chars, encode_utf8_all}
use Rattle.std.specs.Char.{encode_utf8}
use Rattle.std.proofs.lemmas.Str.{chars-encodes}
use Rattle.clap.specs.Lexer.{long_of, short_of, name_and_value}
use Rattle.command_words.specs.Parts.{is_option}

abbrev is_equals : ℕ → Bool
is_equals byte = byte == 61

-- the name of an option word behind its dashes, and the value that is attached to it
abbrev pub name_in : List ℕ → List ℕ
name_in = before_first is_equals

abbrev pub value_in : List ℕ → Option (List ℕ)
value_in text = (name_and_value text).1

-- the name is all, or `=` and the value stand behind it
abbrev pub IsCut : List ℕ → Option (List ℕ) → Type 0
IsCut text None = name_in text ≡ text
IsCut text (Some value) = text ≡ name_in text ++ 61 ∷ value

before_next : (byte : ℕ) (text : List ℕ) → (byte == 61) ≡ false → name_in (byte ∷ text) ≡ byte ∷ name_in text
before_next byte text e = rw e (ap (λ n. take n (byte ∷ text)) one)
  where
    one : 1 + position_or_len is_equals text ≡ suc (position_or_len is_equals text)
    one = omega arith

after_next : (byte : ℕ) (text : List ℕ) → (byte == 61) ≡ false → after_first is_equals (byte ∷ text) ≡ after_first is_equals text
after_next byte text e = rw e (ap (λ n. drop n (byte ∷ text)) one)
  where
    one : 1 + position_or_len is_equals text + 1 ≡ suc (position_or_len is_equals text + 1)
    one = omega arith

cut_by : (text : List ℕ) (has : Bool) → list_any is_equals text ≡ has → IsCut text (cond has (Some (after_first is_equals text)) None)
cut_by [] true e = cc
cut_by [] false e = refl
cut_by (byte ∷ text) has e = go (byte == 61) refl has e (cut_by text)
  where
    go : (same : Bool) → (byte == 61) ≡ same → (any : Bool) → list_any is_equals (byte ∷ text) ≡ any
        → ((has : Bool) → list_any is_equals text ≡ has → IsCut text (cond has (Some (after_first is_equals text)) None))
        → IsCut (byte ∷ text) (cond any (Some (after_first is_equals (byte ∷ text))) None)
    go true s true e rest = rw s (ap (λ b. b ∷ text) (eqb-true byte 61 s))
    go true s false e rest = let bad : true ≡ false = rw s at e in cc
    go false s true e rest =
        ap (λ t. byte ∷ t) (rest true (rw s at e)) ∙ sym (ap (λ t. t ++ 61 ∷ after_first is_equals text) (before_next byte text s))
        ∙ ap (λ t. name_in (byte ∷ text) ++ 61 ∷ t) (sym (after_next byte text s))
    go false s false e rest = before_next byte text s ∙ ap (λ t. byte ∷ t) (rest false (rw s at e))

pub cut : (text : List ℕ) → IsCut text (value_in text)
cut text = cut_by text (list_any is_equals text) refl

-- behind the dash of a text there is a character, where a byte is
pub more_chars : (byte : ℕ) (bytes : List ℕ) → IsUtf8 (45 ∷ byte ∷ bytes) → (char : ℕ) × (slice_get (chars (byte ∷ bytes)) 0 ≡ Some char)
unfolding chars encode_utf8
more_chars byte bytes utf8 = go (chars (byte ∷ bytes)) refl
  where
    go : (all : List ℕ) → chars (byte ∷ bytes) ≡ all → (char : ℕ) × (slice_get all 0 ≡ Some char)
    go (char ∷ all) e = (char, refl)
    go [] e =
        let one : utf8.0 ≡ 45 ∷ [] = sym (chars-encodes utf8.0 utf8.1.0) ∙ ap chars utf8.1.1 ∙ ap (λ cs. 45 ∷ cs) e in
        let dash : encode_utf8_all (45 ∷ []) ≡ 45 ∷ [] = refl in
        let bad : 45 ∷ [] ≡ 45 ∷ byte ∷ bytes = sym dash ∙ ap encode_utf8_all (sym one) ∙ utf8.1.1 in
        cc

-- the kinds of words
pub data Kind (word : List ℕ) : Type 0 where
  End : word ≡ codes "--" → Kind word
  Plain : bytes_eq word (codes "--") ≡ false → is_option word ≡ false → long_of word ≡ None → short_of word ≡ None → Kind word
  Short : (byte : ℕ) (bytes : List ℕ) → word ≡ 45 ∷ byte ∷ bytes → (byte == 45) ≡ false → Kind word
  Long : (byte : ℕ) (bytes : List ℕ) → word ≡ 45 ∷ 45 ∷ byte ∷ bytes → Kind word

kind_by : (first second : ℕ) (rest : List ℕ) (dash dashes : Bool) → (first == 45) ≡ dash → (second == 45) ≡ dashes → Kind (first ∷ second ∷ rest)
kind_by first second rest false dashes a b = Plain (rw a refl) a (rw a refl) (rw a refl)
kind_by first second rest true false a b = Short second rest (ap (λ f. f ∷ second ∷ rest) (eqb-true first 45 a)) b
kind_by first second [] true true a b = End (ap (λ f. f ∷ second ∷ []) (eqb-true first 45 a) ∙ ap (λ s. 45 ∷ s ∷ []) (eqb-true second 45 b))
kind_by first second (byte ∷ bytes) true true a b =
    Long byte bytes (ap (λ f. f ∷ second ∷ byte ∷ bytes) (eqb-true first 45 a) ∙ ap (λ s. 45 ∷ s ∷ byte ∷ bytes) (eqb-true second 45 b))

one_byte : (byte : ℕ) (dash : Bool) → (byte == 45) ≡ dash → Kind (byte ∷ [])
one_byte byte false e = Plain (rw e refl) refl (rw e refl) (rw e refl)
one_byte byte true e = Plain (rw e refl) refl (rw e refl) (rw e refl)

pub kind_of_word : (word : List ℕ) → Kind word
kind_of_word [] = Plain refl refl refl refl
kind_of_word (byte ∷ []) = one_byte byte (byte == 45) refl
kind_of_word (first ∷ second ∷ rest) = kind_by first second rest (first == 45) (second == 45) refl refl
