-- An atom is a word that isn't reserved, and its bytes are ASCII.
use Rattle.std.proofs.Common.{◌≡◌, ℕ, ◌<◌, ◌⊎◌, inl, inr, Bool, true, false, not, ◌==◌, ◌&&◌, ◌||◌, List, [], ◌∷◌, map, IsTrue, refl, sym, ◌∙◌, ap, arith}
use Rattle.std.specs.List.{list_any}
use Rattle.std.specs.Str.{IsAscii, IsUtf8, bytes_eq}
use Rattle.std.proofs.lemmas.Bool.Decides.{nat_tests}
use Rattle.std.proofs.lemmas.Slice.Eq.{bytes_eq-Decides}
use Rattle.std.proofs.lemmas.Str.{IsUtf8-from_ascii}
use Rattle.std.proofs.lemmas.Str.Ascii.{IsAscii-nil, IsAscii-cons}
use Rattle.kripke_model.specs.Names.{is_letter, is_name_byte, begins_name, is_tail, has_shape, reserved, IsAtom}
use Rattle.smv_lexer.specs.declared.keyword.Keyword.{Keyword}
use Rattle.smv_lexer.specs.declared.keyword.TheConstants.Keyword
use Rattle.smv_lexer.specs.Keyword.{text_of}
use Rattle.smv_lexer.proofs.Tables.{and_both}
use Rattle.smv_lexer.proofs.KeywordTable.{each_keyword}

pub not_of : (a : Bool) → not a ≡ true → a ≡ false
not_of true h = absurd cc
not_of false h = refl

pub shape-atom : (w : List ℕ) → IsAtom w → has_shape w ≡ true
shape-atom w h = (and_both (has_shape w) (not (list_any (bytes_eq w) reserved)) h).0

-- the reserved words are those of the table
reserved_words : reserved ≡ map text_of Keyword.ALL
reserved_words = refl

pub keyword_shape : (k : Keyword) → has_shape (text_of k) ≡ true
keyword_shape k = each_keyword (λ x. has_shape (text_of x)) refl k

pub keyword_reserved : (k : Keyword) → IsAtom (text_of k) → ⊥
keyword_reserved k h =
    let a = not_of (list_any (bytes_eq (text_of k)) reserved) (and_both (has_shape (text_of k)) (not (list_any (bytes_eq (text_of k)) reserved)) h).1 in
    let b = each_keyword (λ x. list_any (bytes_eq (text_of x)) reserved) refl k in
    let z : true ≡ false = sym b ∙ a in cc

keyword_of : (w : List ℕ) (ks : List Keyword) → list_any (bytes_eq w) (map text_of ks) ≡ true → (k : Keyword) × (w ≡ text_of k)
keyword_of w [] h = absurd cc
keyword_of w (k ∷ ks) h = elim (bytes_eq w (text_of k)) as (λ v. bytes_eq w (text_of k) ≡ v → (v || list_any (bytes_eq w) (map text_of ks)) ≡ true → (x : Keyword) × (w ≡ text_of x))
    [ true ↦ λ e i. (k, (bytes_eq-Decides w (text_of k)).0 e) | false ↦ λ e i. keyword_of w ks i ] refl h

-- what has an atom's shape is an atom or reserved
pub atom_or_keyword : (w : List ℕ) → has_shape w ≡ true → IsAtom w ⊎ ((k : Keyword) × (w ≡ text_of k))
atom_or_keyword w h = elim (list_any (bytes_eq w) reserved) as (λ v. list_any (bytes_eq w) reserved ≡ v → IsTrue (has_shape w && not v) ⊎ ((k : Keyword) × (w ≡ text_of k))) [
  | true ↦ λ e. inr (keyword_of w Keyword.ALL (ap (list_any (bytes_eq w)) (sym reserved_words) ∙ e))
  | false ↦ λ e. inl (rw h refl)
] refl

letter_below : (b : ℕ) → is_letter b ≡ true → b < 128
letter_below b h = grind (arith, nat_tests)

tail_byte_below : (b : ℕ) (v : Bool) → (is_name_byte b || ((b == 45) && v)) ≡ true → b < 128
tail_byte_below b v h = grind (arith, nat_tests)

IsAscii-tail : (s : List ℕ) → is_tail s ≡ true → IsAscii s
IsAscii-tail [] h = IsAscii-nil
IsAscii-tail (b ∷ s) h =
    let p = and_both (is_name_byte b || ((b == 45) && begins_name s)) (is_tail s) h in
    IsAscii-cons b s (tail_byte_below b (begins_name s) p.0) (IsAscii-tail s p.1)

IsAscii-shape : (w : List ℕ) → has_shape w ≡ true → IsAscii w
IsAscii-shape [] h = IsAscii-nil
IsAscii-shape (b ∷ s) h =
    let p = and_both (is_letter b) (is_tail s) h in
    IsAscii-cons b s (letter_below b p.0) (IsAscii-tail s p.1)

pub IsUtf8-shape : (w : List ℕ) → has_shape w ≡ true → IsUtf8 w
IsUtf8-shape w h = IsUtf8-from_ascii w (IsAscii-shape w h)
