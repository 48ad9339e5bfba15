-- One step each of the code above expressions, in terms of reading.
use Rattle.std.proofs.Common.{◌≡◌, ℕ, zero, suc, ◌+◌, ◌-◌, ◌≤◌, ◌<◌, Bool, true, false, cond, List, [], ◌∷◌, ◌++◌, map, length, refl, sym, ◌∙◌, ap, subst, arith, Option, Some, None}
use Rattle.reader_laws.specs.Optional.{optional}
use Rattle.reader_laws.specs.Reading.{Reading, ◌>>=◌, accept, accepted, choose, expect, enclosed, headed, both, many, first_is}
use Rattle.reader_laws.specs.Reading.Reading.{found, syntax_error, too_deep}
use Rattle.reader_laws.proofs.Readers.{found-then}
use Rattle.reader_laws.proofs.Mapped.{same_made, then_then, then_same}
use Rattle.smv_lexer.specs.declared.keyword.Keyword.{Keyword}
use Rattle.smv_lexer.specs.declared.sign.Sign.{Sign}
use Rattle.smv_lexer.specs.Text.{Placed}
use Rattle.smv_parser.specs.declared.reader.Failure.{Failure}
use Rattle.smv_parser.specs.declared.reader.Failure.TheVariants as failures
use Rattle.smv_parser.specs.Gives.{Fails, IsSyntaxError, IsTooDeep}
use Rattle.smv_parser.specs.Tests.{is_sign, is_key, name_of}
use Rattle.smv_parser.specs.Openings.{formal_of, key_line, on_its_line}
use Rattle.smv_parser.specs.Program.{Lined}
use Rattle.smv_parser.specs.Reading.{front_line}
use Rattle.smv_parser.specs.ProgramReading.{commas, inside, lined, listed, parameters, parameters_here}
use Rattle.smv_parser.proofs.Codes.{Fails-then, both_fails, both_fails_after, both_found, enclosed_fails, enclosed_fails_after, enclosed_found, headed_fails, headed_is, rest_of}

pub map-push : {A B : Type 0} (f : A → B) (xs : List A) (x : A) (ys : List B) → map f (xs ++ x ∷ []) ++ ys ≡ map f xs ++ (f x ∷ ys)
map-push f [] x ys = refl
map-push f (z ∷ xs) x ys = ap (λ (l : List _). f z ∷ l) (map-push f xs x ys)

pub all_rest : {A : Type 0} (p : Placed → Bool) (item : List Placed → Reading Placed A) (m : ℕ) (s : List Placed) → many p item m s ≡ rest_of p item m s (λ xs. xs)
unfolding rest_of
all_rest p item m s = same_made (λ v. many p item m v) s

pub both_start : {A B : Type 0} (one : List Placed → Reading Placed A) (two : List Placed → Reading Placed B) (s r : List Placed) (x : A) → one s ≡ found x r → both one two s ≡ (two r >>= λ y v. let z : A × B = (x, y) in found z v)
unfolding both
both_start {A} {B} one two s r x h = found-then (one s) x r (λ (x : A) (r : List Placed). two r >>= λ y v. let z : A × B = (x, y) in found z v) h

pair_listed : {A : Type 0} (x : A) (y : Reading Placed (List A)) → ((y >>= λ ys v. let z : A × List A = (x, ys) in found z v) >>= λ z r. found (z.0 ∷ z.1) r) ≡ (y >>= λ xs v. found (x ∷ xs) v)
unfolding ◌>>=◌
pair_listed x (found xs v) = refl
pair_listed x (syntax_error v) = refl
pair_listed x (too_deep v) = refl

pub commas_start : {A : Type 0} (item : List Placed → Reading Placed A) (s r : List Placed) (x : A) → item s ≡ found x r
    → commas item s ≡ rest_of (is_sign Sign.Comma) (headed (is_sign Sign.Comma) item) (length r) r (λ xs. x ∷ xs)
unfolding commas rest_of
commas_start {A} item s r x h =
    ap (λ (y : Reading Placed (A × List A)). y >>= λ z v. found (z.0 ∷ z.1) v) (both_start item (λ v. many (is_sign Sign.Comma) (headed (is_sign Sign.Comma) item) (length v) v) s r x h)
    ∙ pair_listed x (many (is_sign Sign.Comma) (headed (is_sign Sign.Comma) item) (length r) r)

pub commas_fail : {A : Type 0} (item : List Placed → Reading Placed A) (s : List Placed) (e : Failure) → Fails e (item s) → Fails e (commas item s)
unfolding commas
commas_fail item s e h = Fails-then e (both item (λ v. many (is_sign Sign.Comma) (headed (is_sign Sign.Comma) item) (length v) v) s) (λ x r. found (x.0 ∷ x.1) r)
    (both_fails item (λ v. many (is_sign Sign.Comma) (headed (is_sign Sign.Comma) item) (length v) v) s e h)

module _ {A : Type 0} (item : List Placed → Reading Placed A) (s : List Placed) where
  pub inside_none : first_is (is_sign Sign.CloseParen) s ≡ true → inside item s ≡ (expect (is_sign Sign.CloseParen) s >>= λ _ r. found [] r)
  unfolding inside choose
  inside_none h = rw h refl

  pub inside_some : first_is (is_sign Sign.CloseParen) s ≡ false → inside item s ≡ enclosed (is_sign Sign.CloseParen) (commas item) s
  unfolding inside choose
  inside_some h = rw h refl

  pub parameters_none : first_is (is_sign Sign.OpenParen) s ≡ false → parameters item s ≡ found [] s
  unfolding parameters parameters_here optional ◌>>=◌
  parameters_none h = rw h refl

  pub parameters_some : first_is (is_sign Sign.OpenParen) s ≡ true → parameters item s ≡ headed (is_sign Sign.OpenParen) (inside item) s
  unfolding parameters parameters_here optional ◌>>=◌
  parameters_some h = rw h (again (headed (is_sign Sign.OpenParen) (inside item) s))
    where
      again : (y : Reading Placed (List A)) → ((y >>= λ x r. found (Some x) r) >>= λ ps r. found (listed ps) r) ≡ y
      again (found x r) = refl
      again (syntax_error r) = refl
      again (too_deep r) = refl

-- single tokens

empty_fails : {A : Type 0} (f : Placed → Option A) (s : List Placed) → length s ≡ 0 → IsSyntaxError 0 (accept f s)
unfolding accept
empty_fails f [] h = refl
empty_fails f (t ∷ s) h = absurd (omega arith)

module _ {A : Type 0} (f : Placed → Option A) (s : List Placed) where
  pub accept_empty : length s ≡ 0 → IsSyntaxError 0 (accept f s)
  accept_empty h = empty_fails f s h

  pub accept_found : (t : Placed) (v : List Placed) (x : A) → s ≡ t ∷ v → f t ≡ Some x → accept f s ≡ found x v
  unfolding accept accepted
  accept_found t v x q h = rw (q, h) refl

  pub accept_none : (t : Placed) (v : List Placed) → s ≡ t ∷ v → f t ≡ None → (n : ℕ) → n ≡ length s → IsSyntaxError n (accept f s)
  unfolding accept accepted
  accept_none t v q h n l = let w : accept f s ≡ syntax_error (t ∷ v) = rw (q, h) refl in subst (IsSyntaxError n) (sym w) (ap length (sym q) ∙ sym l)

formal_at : (t : Placed) (s : List Placed) (o : Option (List ℕ)) → accepted (on_its_line t.line o) t s ≡ (accepted o t s >>= λ n r. found (lined t.line n) r)
unfolding accepted ◌>>=◌
formal_at t s None = refl
formal_at t s (Some n) = refl

pub formal_reading : (s : List Placed) → accept formal_of s ≡ (accept name_of s >>= λ n r. found (lined (front_line s) n) r)
unfolding accept ◌>>=◌
formal_reading [] = refl
formal_reading (t ∷ s) = formal_at t s (name_of t)

pub formal_fails : (s : List Placed) (e : Failure) → Fails e (accept name_of s) → Fails e (accept formal_of s)
formal_fails s e h = subst (Fails e) (sym (formal_reading s)) (Fails-then e (accept name_of s) (λ n r. found (lined (front_line s) n) r) h)

pub formal_found : (s r : List Placed) (n : List ℕ) → accept name_of s ≡ found n r → accept formal_of s ≡ found (lined (front_line s) n) r
formal_found s r n h = formal_reading s ∙ found-then (accept name_of s) n r (λ n r. found (lined (front_line s) n) r) h

key_at : (k : Keyword) (t : Placed) (s : List Placed) (w : Bool) → accepted (cond w (Some t.line) None) t s ≡ (cond w (found t s) (syntax_error (t ∷ s)) >>= λ x r. found t.line r)
unfolding accepted ◌>>=◌
key_at k t s true = refl
key_at k t s false = refl

pub key_reading : (k : Keyword) (s : List Placed) → accept (key_line k) s ≡ (expect (is_key k) s >>= λ _ r. found (front_line s) r)
unfolding accept expect ◌>>=◌
key_reading k [] = refl
key_reading k (t ∷ s) = key_at k t s (is_key k t)

pub key_fails : (k : Keyword) (s : List Placed) (e : Failure) → Fails e (expect (is_key k) s) → Fails e (accept (key_line k) s)
key_fails k s e h = subst (Fails e) (sym (key_reading k s)) (Fails-then e (expect (is_key k) s) (λ _ r. found (front_line s) r) h)

pub key_found : (k : Keyword) (s r : List Placed) (t : Placed) → expect (is_key k) s ≡ found t r → accept (key_line k) s ≡ found (front_line s) r
key_found k s r t h = key_reading k s ∙ found-then (expect (is_key k) s) t r (λ _ r. found (front_line s) r) h
