-- Lemmas on lists of bits.
use Rattle.std.proofs.Common.{◌≡◌, ◌≢◌, ℕ, zero, suc, ◌+◌, ◌*◌, Bool, false, List, [], ◌∷◌, slice_index_or, refl, sym, ap, ◌∙◌, arith, ◌⊎◌, inl, inr}
use Rattle.bdd_ops.specs.Answer.{with_bit, exchanged}

-- a bit that was set is as it was set, and the others stay
pub with_bit-same : (bits : List Bool) (l : ℕ) (b : Bool) → slice_index_or (with_bit bits l b) l false ≡ b
with_bit-same [] zero b = refl
with_bit-same [] (suc l) b = with_bit-same [] l b
with_bit-same (x ∷ bits) zero b = refl
with_bit-same (x ∷ bits) (suc l) b = with_bit-same bits l b

pub with_bit-other : (bits : List Bool) (l : ℕ) (b : Bool) (m : ℕ) → m ≢ l → slice_index_or (with_bit bits l b) m false ≡ slice_index_or bits m false
with_bit-other [] zero b zero h = absurd (h refl)
with_bit-other [] zero b (suc m) h = refl
with_bit-other [] (suc l) b zero h = refl
with_bit-other [] (suc l) b (suc m) h = with_bit-other [] l b m (λ e. h (ap suc e))
with_bit-other (x ∷ bits) zero b zero h = absurd (h refl)
with_bit-other (x ∷ bits) zero b (suc m) h = refl
with_bit-other (x ∷ bits) (suc l) b zero h = refl
with_bit-other (x ∷ bits) (suc l) b (suc m) h = with_bit-other bits l b m (λ e. h (ap suc e))

-- bits at different places are set in either order
pub with_bit-commutes : (bits : List Bool) (l m : ℕ) (b c : Bool) → l ≢ m → with_bit (with_bit bits l b) m c ≡ with_bit (with_bit bits m c) l b
with_bit-commutes [] zero zero b c h = absurd (h refl)
with_bit-commutes [] zero (suc m) b c h = refl
with_bit-commutes [] (suc l) zero b c h = refl
with_bit-commutes [] (suc l) (suc m) b c h = ap (λ bs. false ∷ bs) (with_bit-commutes [] l m b c (λ e. h (ap suc e)))
with_bit-commutes (x ∷ bits) zero zero b c h = absurd (h refl)
with_bit-commutes (x ∷ bits) zero (suc m) b c h = refl
with_bit-commutes (x ∷ bits) (suc l) zero b c h = refl
with_bit-commutes (x ∷ bits) (suc l) (suc m) b c h = ap (λ bs. x ∷ bs) (with_bit-commutes bits l m b c (λ e. h (ap suc e)))

-- each number is even or odd
pub cases_parity : (l : ℕ) → ((i : ℕ) × (l ≡ 2 * i)) ⊎ ((i : ℕ) × (l ≡ 2 * i + 1))
cases_parity zero = inl (0, refl)
cases_parity (suc l) = elim (cases_parity l) [ inl h ↦ inr (h.0, omega (arith, h.1)) | inr h ↦ inl (suc h.0, omega (arith, h.1)) ]

-- the exchange reads each bit from its neighbour
exchanged-bits : (bits : List Bool) (i : ℕ)
    → (slice_index_or (exchanged bits) (2 * i) false ≡ slice_index_or bits (2 * i + 1) false) × (slice_index_or (exchanged bits) (2 * i + 1) false ≡ slice_index_or bits (2 * i) false)
exchanged-bits [] i = (refl, refl)
exchanged-bits (a ∷ []) zero = (refl, refl)
exchanged-bits (a ∷ []) (suc i) =
    let e : 2 * suc i ≡ suc (suc (2 * i)) = omega arith in
    let f : 2 * suc i + 1 ≡ suc (suc (2 * i + 1)) = omega arith in
    let old = λ (l : ℕ). slice_index_or (a ∷ []) l false in
    let new = λ (l : ℕ). slice_index_or (false ∷ a ∷ []) l false in
    (ap new e ∙ sym (ap old f), ap new f ∙ sym (ap old e))
exchanged-bits (a ∷ b ∷ bits) zero = (refl, refl)
exchanged-bits (a ∷ b ∷ bits) (suc i) =
    let e : 2 * suc i ≡ suc (suc (2 * i)) = omega arith in
    let f : 2 * suc i + 1 ≡ suc (suc (2 * i + 1)) = omega arith in
    let old = λ (l : ℕ). slice_index_or (a ∷ b ∷ bits) l false in
    let new = λ (l : ℕ). slice_index_or (b ∷ a ∷ exchanged bits) l false in
    let rest = exchanged-bits bits i in
    (ap new e ∙ rest.0 ∙ sym (ap old f), ap new f ∙ rest.1 ∙ sym (ap old e))

pub exchanged-even : (bits : List Bool) (i : ℕ) → slice_index_or (exchanged bits) (2 * i) false ≡ slice_index_or bits (2 * i + 1) false
exchanged-even bits i = (exchanged-bits bits i).0

pub exchanged-odd : (bits : List Bool) (i : ℕ) → slice_index_or (exchanged bits) (2 * i + 1) false ≡ slice_index_or bits (2 * i) false
exchanged-odd bits i = (exchanged-bits bits i).1
