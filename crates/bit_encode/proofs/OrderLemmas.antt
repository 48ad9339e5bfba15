-- Orders that name each number below a bound once: sums over them, and what stands before a number.
use Rattle.std.proofs.Common.{◌≡◌, ◌⊎◌, inl, inr, ℕ, zero, suc, ◌+◌, ◌*◌, ◌<◌, ◌≤◌, cond, eqb, ltb, Bool, true, false, List, [], ◌∷◌, length, get_or, take, refl, sym, ◌∙◌, ap, subst, arith}
use Rattle.std.specs.Prelude.{sum_by, count_by, All}
use Rattle.std.specs.List.{position_or_len, before_first}
use Rattle.std.proofs.lemmas.List.{take_all, length-take-le, get_or-take}
use Rattle.std.proofs.lemmas.List.Elements.{All-head, All-tail}
use Rattle.std.proofs.lemmas.List.Sums.{sum_by-cons, sum_by_more, get_or-le-sum_by, sum_by-take-le, position_or_len_is, passes_at_first, fails_before_first}
use Rattle.std.proofs.lemmas.Bool.{cases_lt, cases_order, eqb-true, eq-eqb, ne_eqb, lt-ltb, le-ltb}
use Rattle.bit_encode.specs.Code.{IsOrder}

-- how often x stands in the list
abbrev pub times : ℕ → List ℕ → ℕ
times x ys = count_by (λ y. eqb y x) ys

-- f 0 + .. + f (n - 1)
abbrev pub sum_below : (ℕ → ℕ) → ℕ → ℕ
sum_below f zero = 0
sum_below f (suc n) = sum_below f n + f n

sum_below-same : (f g : ℕ → ℕ) (n : ℕ) → ((x : ℕ) → x < n → f x ≡ g x) → sum_below f n ≡ sum_below g n
sum_below-same f g zero h = refl
sum_below-same f g (suc n) h = omega (arith, sum_below-same f g n (λ x l. h x (omega arith)), h n (omega arith))

sum_below-add : (f g : ℕ → ℕ) (n : ℕ) → sum_below (λ x. f x + g x) n ≡ sum_below f n + sum_below g n
sum_below-add f g zero = refl
sum_below-add f g (suc n) = omega (arith, sum_below-add f g n)

sum_below-none : (n : ℕ) → sum_below (λ x. 0) n ≡ 0
sum_below-none zero = refl
sum_below-none (suc n) = omega (arith, sum_below-none n)

-- only the term of y counts
one_term : (f : ℕ → ℕ) (y n : ℕ) → sum_below (λ x. cond (eqb y x) (f x) 0) n ≡ cond (ltb y n) (f y) 0
one_term f y zero = sym (ap (λ b. cond b (f y) 0) (le-ltb y 0 (omega arith)))
one_term f y (suc n) = by (one_term f y n) (cases_order y n)
  where
    by : sum_below (λ x. cond (eqb y x) (f x) 0) n ≡ cond (ltb y n) (f y) 0 → (y ≡ n) ⊎ ((y < n) ⊎ (n < y)) → sum_below (λ x. cond (eqb y x) (f x) 0) n + cond (eqb y n) (f n) 0 ≡ cond (ltb y (suc n)) (f y) 0
    by before (inl e) =
        let none : cond (ltb y n) (f y) 0 ≡ 0 = ap (λ b. cond b (f y) 0) (le-ltb y n (omega arith)) in
        let here : cond (eqb y n) (f n) 0 ≡ f n = ap (λ b. cond b (f n) 0) (eq-eqb y n e) in
        let all : cond (ltb y (suc n)) (f y) 0 ≡ f y = ap (λ b. cond b (f y) 0) (lt-ltb y (suc n) (omega arith)) in
        let same : f y ≡ f n = ap f e in
        omega arith
    by before (inr (inl less)) =
        let some : cond (ltb y n) (f y) 0 ≡ f y = ap (λ b. cond b (f y) 0) (lt-ltb y n less) in
        let here : cond (eqb y n) (f n) 0 ≡ 0 = ap (λ b. cond b (f n) 0) (ne_eqb y n (λ e. omega arith)) in
        let all : cond (ltb y (suc n)) (f y) 0 ≡ f y = ap (λ b. cond b (f y) 0) (lt-ltb y (suc n) (omega arith)) in
        omega arith
    by before (inr (inr more)) =
        let none : cond (ltb y n) (f y) 0 ≡ 0 = ap (λ b. cond b (f y) 0) (le-ltb y n (omega arith)) in
        let here : cond (eqb y n) (f n) 0 ≡ 0 = ap (λ b. cond b (f n) 0) (ne_eqb y n (λ e. omega arith)) in
        let all : cond (ltb y (suc n)) (f y) 0 ≡ 0 = ap (λ b. cond b (f y) 0) (le-ltb y (suc n) (omega arith)) in
        omega arith

times-cons : (x y : ℕ) (ys : List ℕ) → times x (y ∷ ys) ≡ cond (eqb y x) 1 0 + times x ys
times-cons x y ys = sum_by-cons (λ z. cond (eqb z x) 1 0) y ys

-- each number below n counts as often as it is named
counted_sum : (f : ℕ → ℕ) (n : ℕ) (ys : List ℕ) → All (λ y. y < n) ys → sum_below (λ x. times x ys * f x) n ≡ sum_by f ys
counted_sum f n [] known = sum_below-same (λ x. times x [] * f x) (λ x. 0) n (λ x l. omega arith) ∙ sum_below-none n
counted_sum f n (y ∷ ys) known =
    sum_below-same (λ x. times x (y ∷ ys) * f x) (λ x. cond (eqb y x) (f x) 0 + times x ys * f x) n (λ x l. split x (eqb y x) (times-cons x y ys))
    ∙ sum_below-add (λ x. cond (eqb y x) (f x) 0) (λ x. times x ys * f x) n
    ∙ ap (λ a. a + sum_below (λ x. times x ys * f x) n) (one_term f y n ∙ ap (λ b. cond b (f y) 0) (lt-ltb y n (All-head (λ z. z < n) y ys known)))
    ∙ ap (λ a. f y + a) (counted_sum f n ys (All-tail (λ z. z < n) y ys known)) ∙ sym (sum_by-cons f y ys)
  where
    split : (x : ℕ) (b : Bool) → times x (y ∷ ys) ≡ cond b 1 0 + times x ys → times x (y ∷ ys) * f x ≡ cond b (f x) 0 + times x ys * f x
    split x true e = ap (λ k. k * f x) e ∙ omega arith
    split x false e = ap (λ k. k * f x) e ∙ omega arith

pub sum_order : (f : ℕ → ℕ) (n : ℕ) (order : List ℕ) → IsOrder n order → sum_by f order ≡ sum_below f n
sum_order f n order h =
    sym (counted_sum f n order h.known)
    ∙ sum_below-same (λ x. times x order * f x) f n (λ x l. ap (λ k. k * f x) (h.once x l) ∙ omega arith)

-- a sum over a list, place by place
sum_places-from : {X : Type 0} (f : X → ℕ) (xs : List X) (d : X) (n : ℕ) → n ≤ length xs → sum_below (λ k. f (get_or xs k d)) n ≡ sum_by f (take n xs)
sum_places-from f xs d zero h = refl
sum_places-from f xs d (suc n) h =
    let more : sum_by f (take (n + 1) xs) ≡ sum_by f (take n xs) + f (get_or xs n d) = sum_by_more f xs n d (omega arith) in
    let next : n + 1 ≡ suc n = omega arith in
    ap (λ a. a + f (get_or xs n d)) (sum_places-from f xs d n (omega arith)) ∙ sym more ∙ ap (λ k. sum_by f (take k xs)) next

pub sum_places : {X : Type 0} (f : X → ℕ) (xs : List X) (d : X) → sum_below (λ k. f (get_or xs k d)) (length xs) ≡ sum_by f xs
sum_places f xs d = sum_places-from f xs d (length xs) (omega arith) ∙ ap (sum_by f) (take_all (length xs) xs (omega arith))

-- ---- what stands before a number

-- nothing is counted where nothing passes
never : (p : ℕ → Bool) (xs : List ℕ) → ((k : ℕ) → k < length xs → p (get_or xs k 0) ≡ false) → count_by p xs ≡ 0
never p [] h = refl
never p (x ∷ xs) h =
    sum_by-cons (λ y. cond (p y) 1 0) x xs
    ∙ ap (λ b. cond b 1 0 + count_by p xs) (h 0 (omega arith)) ∙ omega (arith, never p xs (λ k l. h (suc k) (omega arith)))

-- what passes is counted
passed : (p : ℕ → Bool) (xs : List ℕ) (k : ℕ) → k < length xs → p (get_or xs k 0) ≡ true → 1 ≤ count_by p xs
passed p xs k l e = let one : cond (p (get_or xs k 0)) 1 0 ≡ 1 = ap (λ b. cond b 1 0) e in
    subst (λ n. n ≤ count_by p xs) one (get_or-le-sum_by (λ y. cond (p y) 1 0) xs k 0 l)

-- a number that is named stands somewhere, first at some place
pub named_at : (n : ℕ) (order : List ℕ) (x : ℕ) → IsOrder n order → x < n → (k : ℕ) × (k < length order) × (get_or order k 0 ≡ x)
named_at n order x h l = by (cases_lt (position_or_len (λ y. eqb y x) order) (length order))
  where
    by : (position_or_len (λ y. eqb y x) order < length order) ⊎ (length order ≤ position_or_len (λ y. eqb y x) order) → (k : ℕ) × (k < length order) × (get_or order k 0 ≡ x)
    by (inl less) = (position_or_len (λ y. eqb y x) order, less, eqb-true (get_or order (position_or_len (λ y. eqb y x) order) 0) x (passes_at_first (λ y. eqb y x) order 0 less))
    by (inr none) = absurd (omega (arith, h.once x l, never (λ y. eqb y x) order (λ k below. fails_before_first (λ y. eqb y x) order k 0 (omega arith))))

too_many : (a b n one : ℕ) → 1 ≤ a → b ≡ a + one → one ≡ 1 → n ≡ 1 → b ≤ n → ⊥
too_many a b n one p q r s t = omega arith

-- two places with one number are one place
pub place_once : (n : ℕ) (order : List ℕ) (j k : ℕ) → IsOrder n order → j < k → k < length order → get_or order j 0 ≡ get_or order k 0 → ⊥
place_once n order j k h less l e =
    let x : ℕ = get_or order k 0 in
    let early : 1 ≤ times x (take k order) = passed (λ y. eqb y x) (take k order) j (omega (arith, length-take-le k order (omega arith))) (eq-eqb (get_or (take k order) j 0) x (get_or-take k order j 0 less ∙ e)) in
    let here : times x (take (k + 1) order) ≡ times x (take k order) + cond (eqb x x) 1 0 = sum_by_more (λ y. cond (eqb y x) 1 0) order k 0 l in
    let one : cond (eqb x x) 1 0 ≡ 1 = ap (λ b. cond b 1 0) (eq-eqb x x refl) in
    let all : times x order ≡ 1 = h.once x (h.known k 0 l) in
    let part : times x (take (k + 1) order) ≤ times x order = sum_by-take-le (λ y. cond (eqb y x) 1 0) order (k + 1) in
    too_many (times x (take k order)) (times x (take (k + 1) order)) (times x order) (cond (eqb x x) 1 0) early here one all part

-- the numbers before place k are those before the number there
pub before_place : (n : ℕ) (order : List ℕ) (k : ℕ) → IsOrder n order → k < length order → before_first (λ y. eqb y (get_or order k 0)) order ≡ take k order
before_place n order k h l =
    ap (λ i. take i order) (position_or_len_is (λ y. eqb y (get_or order k 0)) order k 0 (omega arith)
    (λ j less. ne_eqb (get_or order j 0) (get_or order k 0) (place_once n order j k h less l))
    (λ here. eq-eqb (get_or order k 0) (get_or order k 0) refl))
