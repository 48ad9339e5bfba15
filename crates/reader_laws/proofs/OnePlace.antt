-- Tokens are something, or have one failing place.
use Rattle.std.proofs.Common.{◌≡◌, ℕ, zero, suc, ◌+◌, ◌≤◌, ◌<◌, ◌⊎◌, List, [], ◌∷◌, ◌++◌, length, take, drop, refl, sym, ◌∙◌, ap, subst, append_assoc, take-append-drop, arith, ⊎_elim}
use Rattle.std.proofs.lemmas.Bool.Decides.{leb_tells}
use Rattle.reader_laws.specs.Places.{Begins, BeginsWithin, IsSyntaxPlace, IsTooDeepPlace}

take_take : {T : Type 0} (n m : ℕ) (ts : List T) → n ≤ m → take n (take m ts) ≡ take n ts
take_take zero m ts h = refl
take_take (suc n) zero ts h = absurd (omega arith)
take_take (suc n) (suc m) [] h = refl
take_take (suc n) (suc m) (t ∷ ts) h = ap (λ (l : List _). t ∷ l) (take_take n m ts (omega arith))

front : {T : Type 0} (n m : ℕ) (ts r : List T) → n ≤ m → take n ts ++ (drop n (take m ts) ++ r) ≡ take m ts ++ r
front n m ts r h =
    sym (append_assoc (take n ts) (drop n (take m ts)) r)
    ∙ ap (λ (y : List _). y ++ r) (ap (λ (l : List _). l ++ drop n (take m ts)) (sym (take_take n m ts h)) ∙ take-append-drop n (take m ts))

order_of : (m n : ℕ) → (m < n) ⊎ ((m ≡ n) ⊎ (n < m))
order_of m n = grind (arith, leb_tells)

module _ {T A : Type 0} (D : List T → A → Type 0) (F : A → Type 0) where
  begins_whole : (n : ℕ) (ts : List T) (x : A) → D ts x → Begins D (take n ts)
  begins_whole n ts x d = (drop n ts, x, subst (λ (l : List T). D l x) (sym (take-append-drop n ts)) d)

  within_front : (n m : ℕ) (ts : List T) → n ≤ m → BeginsWithin D F (take m ts) → BeginsWithin D F (take n ts)
  within_front n m ts h (r, x, d, i) = (drop n (take m ts) ++ r, x, subst (λ (l : List T). D l x) (sym (front n m ts r h)) d, i)

  weaken : (ts : List T) → BeginsWithin D F ts → Begins D ts
  weaken ts (r, x, d, h) = (r, x, d)

  pub syntax_or_tree : (at : ℕ) (ts : List T) (x : A) → IsSyntaxPlace D F ts at → D ts x → ⊥
  syntax_or_tree at ts x p d =
      ⊎_elim (λ h. p.here h (begins_whole (at + 1) ts x d)) (⊎_elim (λ h. p.at_end h x d) (λ h. absurd (omega (arith, p.within)))) (order_of at (length ts))

  pub deep_or_tree : (at : ℕ) (ts : List T) (x : A) → IsTooDeepPlace D F ts at → D ts x → F x → ⊥
  deep_or_tree at ts x p d h = p.here (drop (at + 1) ts, x, subst (λ (l : List T). D l x) (sym (take-append-drop (at + 1) ts)) d, h)

  pub one_syntax : (m n : ℕ) (ts : List T) → IsSyntaxPlace D F ts m → IsSyntaxPlace D F ts n → m ≡ n
  one_syntax m n ts p q = ⊎_elim
      (λ h. absurd (p.here (omega (arith, q.within)) (weaken (take (m + 1) ts) (within_front (m + 1) n ts (omega arith) q.before))))
      (⊎_elim (λ h. h) (λ h. absurd (q.here (omega (arith, p.within)) (weaken (take (n + 1) ts) (within_front (n + 1) m ts (omega arith) p.before)))))
      (order_of m n)

  pub one_deep : (m n : ℕ) (ts : List T) → IsTooDeepPlace D F ts m → IsTooDeepPlace D F ts n → m ≡ n
  one_deep m n ts p q = ⊎_elim
      (λ h. absurd (p.here (within_front (m + 1) n ts (omega arith) q.before)))
      (⊎_elim (λ h. h) (λ h. absurd (q.here (within_front (n + 1) m ts (omega arith) p.before))))
      (order_of m n)

  begins_front : (n m : ℕ) (ts : List T) → n ≤ m → Begins D (take m ts) → Begins D (take n ts)
  begins_front n m ts h (r, x, d) = (drop n (take m ts) ++ r, x, subst (λ (l : List T). D l x) (sym (front n m ts r h)) d)

  pub syntax_or_deep : (m n : ℕ) (ts : List T) → IsSyntaxPlace D F ts m → IsTooDeepPlace D F ts n → ⊥
  syntax_or_deep m n ts p q = ⊎_elim
      (λ h. p.here (omega (arith, q.within)) (begins_front (m + 1) (n + 1) ts (omega arith) q.deeper))
      (⊎_elim
      (λ h. p.here (omega (arith, q.within)) (begins_front (m + 1) (n + 1) ts (omega arith) q.deeper))
      (λ h. q.here (within_front (n + 1) m ts (omega arith) p.before)))
      (order_of m n)
