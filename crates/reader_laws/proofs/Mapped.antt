-- Readers that differ only in what they make of what is read.
use Rattle.std.proofs.Common.{◌≡◌, ℕ, zero, suc, ◌+◌, ◌-◌, ◌≤◌, ◌<◌, Bool, true, false, cond, ◌⊎◌, List, [], ◌∷◌, ◌++◌, map, length, take, Option, Some, None, refl, sym, ◌∙◌, ap, subst}
use Rattle.reader_laws.specs.Reading.{Reading, ◌>>=◌, expect, first_is, many, headed, enclosed, both}
use Rattle.reader_laws.specs.Reading.Reading.{found, syntax_error, too_deep}
use Rattle.reader_laws.specs.Places.{Begins, BeginsWithin, IsSyntaxPlace, IsTooDeepPlace}
use Rattle.reader_laws.proofs.Readers.{Reads, Outcome, Completes}
use Rattle.reader_laws.proofs.Places as places

-- run' reads what run reads, and makes it into f of it
abbrev pub Makes : {T A B : Type 0} → (A → B) → (List T → Reading T A) → (List T → Reading T B) → Type 0
Makes {T} f run run' = (s : List T) → run' s ≡ (run s >>= λ x r. found (f x) r)

pub then_made : {T A B C : Type 0} (y : Reading T A) (f : A → B) (g : B → List T → Reading T C) → ((y >>= λ x r. found (f x) r) >>= g) ≡ (y >>= λ x r. g (f x) r)
unfolding ◌>>=◌
then_made (found x r) f g = refl
then_made (syntax_error r) f g = refl
then_made (too_deep r) f g = refl

pub then_then : {T A B C : Type 0} (y : Reading T A) (g : A → List T → Reading T B) (h : B → List T → Reading T C) → ((y >>= g) >>= h) ≡ (y >>= λ x r. g x r >>= h)
unfolding ◌>>=◌
then_then (found x r) g h = refl
then_then (syntax_error r) g h = refl
then_then (too_deep r) g h = refl

pub then_same : {T A B : Type 0} (y : Reading T A) (g h : A → List T → Reading T B) → ((x : A) (r : List T) → g x r ≡ h x r) → (y >>= g) ≡ (y >>= h)
unfolding ◌>>=◌
then_same (found x r) g h e = e x r
then_same (syntax_error r) g h e = refl
then_same (too_deep r) g h e = refl

-- the same reader
pub reads_same : {T A : Type 0} (D : List T → A → Type 0) (F : A → Type 0) (E : A → List T → Type 0) (run run' : List T → Reading T A)
    → Reads D F E run → ((s : List T) → run' s ≡ run s) → Reads D F E run'
reads_same {T} {A} D F E run run' one same = record {
  complete = λ a x r d e. subst (Completes D F E x r) (sym (same (a ++ r))) (one.complete a x r d e);
  outcome = λ s. by_answer s (run s) (run' s) (same s) (one.outcome s);
  some = one.some;
}
  where
    again : (s : List T) (y : Reading T A) → Outcome D F E (λ v z. run v ≡ z) s y → Outcome D F E (λ v z. run' v ≡ z) s y
    again s (found x r) (a, q, d, f, e, g) = (a, q, d, f, e, λ v sh. same (a ++ v) ∙ g v sh)
    again s (syntax_error r) (a, q, o, g) = (a, q, o, λ t u v i. same (a ++ t ∷ v) ∙ g t u v i)
    again s (too_deep r) (a, q, o, g, t, u, j, m) = (a, q, o, (λ t' u' v i. same (a ++ t' ∷ v) ∙ g t' u' v i), t, u, j, m)

    by_answer : (s : List T) (y z : Reading T A) → z ≡ y → Outcome D F E (λ v z. run v ≡ z) s y → Outcome D F E (λ v z. run' v ≡ z) s z
    by_answer s y z p o = subst (Outcome D F E (λ v z. run' v ≡ z) s) (sym p) (again s y o)

module _ {T A B : Type 0} (f : A → B) (run : List T → Reading T A) (run' : List T → Reading T B) (made : Makes f run run') (p : T → Bool) where
  pub enclosed_made : Makes f (enclosed p run) (enclosed p run')
  unfolding enclosed ◌>>=◌
  enclosed_made s =
      ap (λ (y : Reading T B). y >>= λ x r. expect p r >>= λ _ v. found x v) (made s)
      ∙ then_made (run s) f (λ x r. expect p r >>= λ _ v. found x v)
      ∙ then_same (run s) (λ x r. expect p r >>= λ _ v. found (f x) v) (λ x r. (expect p r >>= λ _ v. found x v) >>= λ x r. found (f x) r)
      (λ x r. sym (then_then (expect p r) (λ _ v. found x v) (λ x r. found (f x) r)))
      ∙ sym (then_then (run s) (λ x r. expect p r >>= λ _ v. found x v) (λ x r. found (f x) r))

  one_more : (n : ℕ) → ((s : List T) → many p run' n s ≡ (many p run n s >>= λ xs r. found (map f xs) r)) → (s : List T) (w : Bool)
      → cond w (run' s >>= λ x r. many p run' n r >>= λ xs v. found (x ∷ xs) v) (found [] s)
      ≡ (cond w (run s >>= λ x r. many p run n r >>= λ xs v. found (x ∷ xs) v) (found [] s) >>= λ xs r. found (map f xs) r)
  unfolding ◌>>=◌
  one_more n next s true =
      ap (λ (y : Reading T B). y >>= λ x r. many p run' n r >>= λ xs v. found (x ∷ xs) v) (made s)
      ∙ then_made (run s) f (λ x r. many p run' n r >>= λ xs v. found (x ∷ xs) v)
      ∙ then_same (run s) (λ x r. many p run' n r >>= λ xs v. found (f x ∷ xs) v) (λ x r. (many p run n r >>= λ xs v. found (x ∷ xs) v) >>= λ xs r. found (map f xs) r)
      (λ x r. ap (λ (y : Reading T (List B)). y >>= λ xs v. found (f x ∷ xs) v) (next r)
      ∙ then_made (many p run n r) (map f) (λ xs v. found (f x ∷ xs) v)
      ∙ sym (then_then (many p run n r) (λ xs v. found (x ∷ xs) v) (λ xs r. found (map f xs) r)))
      ∙ sym (then_then (run s) (λ x r. many p run n r >>= λ xs v. found (x ∷ xs) v) (λ xs r. found (map f xs) r))
  one_more n next s false = refl

  many_made : (n : ℕ) (s : List T) → many p run' n s ≡ (many p run n s >>= λ xs r. found (map f xs) r)
  unfolding many ◌>>=◌
  many_made zero s = refl
  many_made (suc n) s = one_more n (many_made n) s (first_is p s)

  pub all_made : Makes (map f) (λ s. many p run (length s) s) (λ s. many p run' (length s) s)
  all_made s = many_made (length s) s

-- what is said of the tokens of the one holds of the other
module _ {T A B : Type 0} (D : List T → A → Type 0) (F : A → Type 0) (D' : List T → B → Type 0) (F' : B → Type 0) (f : A → B)
    (into : (a : List T) (x : A) → D a x → D' a (f x)) (from : (a : List T) (y : B) → D' a y → (x : A) × (y ≡ f x) × D a x)
    (fits : (x : A) → F x → F' (f x)) (fits' : (x : A) → F' (f x) → F x) where
  pub begins_made : (s : List T) → Begins D s → Begins D' s
  begins_made s (m, x, d) = (m, f x, into (s ++ m) x d)

  pub begins_from : (s : List T) → Begins D' s → Begins D s
  begins_from s (m, y, d) = let w = from (s ++ m) y d in (m, w.0, w.2)

  pub within_made : (s : List T) → BeginsWithin D F s → BeginsWithin D' F' s
  within_made s (m, x, d, h) = (m, f x, into (s ++ m) x d, fits x h)

  pub within_from : (s : List T) → BeginsWithin D' F' s → BeginsWithin D F s
  within_from s (m, y, d, h) = let w = from (s ++ m) y d in (m, w.0, w.2, fits' w.0 (subst F' w.1 h))

  pub syntax_made : (s : List T) (at : ℕ) → IsSyntaxPlace D F s at → IsSyntaxPlace D' F' s at
  syntax_made s at h = record {
    within = h.within;
    before = within_made (take at s) h.before;
    here = λ l b. h.here l (begins_from (take (at + 1) s) b);
    at_end = λ l y d. let w = from s y d in h.at_end l w.0 w.2;
  }

  pub deep_made : (s : List T) (at : ℕ) → IsTooDeepPlace D F s at → IsTooDeepPlace D' F' s at
  deep_made s at h = record {
    within = h.within;
    before = within_made (take at s) h.before;
    deeper = begins_made (take (at + 1) s) h.deeper;
    here = λ b. h.here (within_from (take (at + 1) s) b);
  }

pub both_made : {T A B A' B' : Type 0} (f : A → A') (g : B → B') (one : List T → Reading T A) (one' : List T → Reading T A') (two : List T → Reading T B) (two' : List T → Reading T B')
    → Makes f one one' → Makes g two two' → Makes (λ z. (f z.0, g z.1)) (both one two) (both one' two')
unfolding both ◌>>=◌
both_made {T} {A} {B} {A'} {B'} f g one one' two two' m n s =
    ap (λ (y : Reading T A'). y >>= λ x r. two' r >>= λ y v. found (x, y) v) (m s)
    ∙ then_made (one s) f (λ x r. two' r >>= λ y v. found (x, y) v)
    ∙ then_same (one s) (λ x r. two' r >>= λ y v. found (f x, y) v) (λ x r. (two r >>= λ y v. found (x, y) v) >>= λ z v. found (f z.0, g z.1) v)
    (λ x r. ap (λ (y : Reading T B'). y >>= λ z v. found (f x, z) v) (n r)
    ∙ then_made (two r) g (λ y v. found (f x, y) v)
    ∙ sym (then_then (two r) (λ y v. found (x, y) v) (λ z v. found (f z.0, g z.1) v)))
    ∙ sym (then_then (one s) (λ x r. two r >>= λ y v. found (x, y) v) (λ z v. found (f z.0, g z.1) v))

pub same_made : {T A : Type 0} (run : List T → Reading T A) → Makes (λ x. x) run run
unfolding ◌>>=◌
same_made {T} {A} run s = again (run s)
  where
    again : (y : Reading T A) → y ≡ (y >>= λ x r. found x r)
    again (found x r) = refl
    again (syntax_error r) = refl
    again (too_deep r) = refl

pub found_made : {T A B : Type 0} (f : A → B) (y : Reading T A) (z : B) (r : List T) → (y >>= λ x v. found (f x) v) ≡ found z r → (x : A) × (z ≡ f x) × (y ≡ found x r)
unfolding ◌>>=◌
found_made f (found x v) z r h = (x, cc, let same : v ≡ r = cc in ap (λ (l : List _). found x l) same)
found_made f (syntax_error v) z r h = absurd cc
found_made f (too_deep v) z r h = absurd cc

pub failed_made : {T A B : Type 0} (f : A → B) (y : Reading T A) (r : List T) → (y >>= λ x v. found (f x) v) ≡ syntax_error r → y ≡ syntax_error r
unfolding ◌>>=◌
failed_made f (found x v) r h = absurd cc
failed_made f (syntax_error v) r h = let same : v ≡ r = cc in ap syntax_error same
failed_made f (too_deep v) r h = absurd cc

pub deep_reading_made : {T A B : Type 0} (f : A → B) (y : Reading T A) (r : List T) → (y >>= λ x v. found (f x) v) ≡ too_deep r → y ≡ too_deep r
unfolding ◌>>=◌
deep_reading_made f (found x v) r h = absurd cc
deep_reading_made f (syntax_error v) r h = absurd cc
deep_reading_made f (too_deep v) r h = let same : v ≡ r = cc in ap too_deep same
