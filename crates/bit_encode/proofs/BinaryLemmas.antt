-- Numbers and their bits: each list of bits spells one number, and the width is the least that serves.
use Rattle.std.proofs.Common.{◌≡◌, ◌⊎◌, inl, inr, ℕ, zero, suc, ◌+◌, ◌-◌, ◌*◌, ◌^◌, ◌<◌, ◌≤◌, cond, not, leb, Bool, true, false, List, [], ◌∷◌, ◌++◌, length, get_or, take, refl, sym, ◌∙◌, ap, arith}
use Rattle.std.specs.List.{position_or_len, range_with_len}
use Rattle.std.proofs.Math.Nat.{pow-suc, pow-le-pow_right}
use Rattle.std.proofs.lemmas.List.{append_assoc, append-nil, length_push, take_more, length-take-le}
use Rattle.std.proofs.lemmas.List.FromFn.{length-range_with_len, get_or-range_with_len}
use Rattle.std.proofs.lemmas.List.Sums.{passes_at_first, fails_before_first, prefix_len-le-length}
use Rattle.std.proofs.lemmas.Bool.{cases_lt, leb-true, leb-false, le-leb, lt-leb, false≢true}
use Rattle.bit_encode.specs.Binary.{number, binary, width}

twice : (w : ℕ) → 2 ^ suc w ≡ 2 ^ w + 2 ^ w
twice w = omega (arith, pow-suc 2 w)

-- ---- lists of bits

pub length-binary : (w n : ℕ) → length (binary w n) ≡ w
unfolding binary
length-binary zero n = refl
length-binary (suc w) n = by (leb (2 ^ w) n) (length-binary w (n - 2 ^ w)) (length-binary w n)
  where
    by : (b : Bool) → length (binary w (n - 2 ^ w)) ≡ w → length (binary w n) ≡ w → length (cond b (true ∷ binary w (n - 2 ^ w)) (false ∷ binary w n)) ≡ suc w
    by true e f = ap suc e
    by false e f = ap suc f

pub number-lt : (bits : List Bool) → number bits < 2 ^ length bits
unfolding number
number-lt [] = omega arith
number-lt (true ∷ bits) = let less : number bits < 2 ^ length bits = number-lt bits in omega (arith, twice (length bits))
number-lt (false ∷ bits) = let less : number bits < 2 ^ length bits = number-lt bits in omega (arith, twice (length bits))

pub number-binary : (w n : ℕ) → n < 2 ^ w → number (binary w n) ≡ n
unfolding number binary
number-binary zero n h = omega arith
number-binary (suc w) n h = by (leb (2 ^ w) n) refl (number-binary w (n - 2 ^ w)) (number-binary w n)
  where
    by : (b : Bool) → leb (2 ^ w) n ≡ b → (n - 2 ^ w < 2 ^ w → number (binary w (n - 2 ^ w)) ≡ n - 2 ^ w) → (n < 2 ^ w → number (binary w n) ≡ n) → number (cond b (true ∷ binary w (n - 2 ^ w)) (false ∷ binary w n)) ≡ n
    by true e f g =
        let large : 2 ^ w ≤ n = leb-true (2 ^ w) n e in
        let rest : number (binary w (n - 2 ^ w)) ≡ n - 2 ^ w = f (omega (arith, twice w)) in
        let size : 2 ^ length (binary w (n - 2 ^ w)) ≡ 2 ^ w = ap (λ k. 2 ^ k) (length-binary w (n - 2 ^ w)) in
        omega arith
    by false e f g = omega (arith, g (leb-false (2 ^ w) n e))

pub binary-number : (bits : List Bool) → binary (length bits) (number bits) ≡ bits
unfolding number binary
binary-number [] = refl
binary-number (true ∷ bits) =
    let n : ℕ = length bits in
    let fits : leb (2 ^ n) (2 ^ n + number bits) ≡ true = le-leb (2 ^ n) (2 ^ n + number bits) (omega arith) in
    let rest : 2 ^ n + number bits - 2 ^ n ≡ number bits = omega arith in
    ap (λ b. cond b (true ∷ binary n (2 ^ n + number bits - 2 ^ n)) (false ∷ binary n (2 ^ n + number bits))) fits
    ∙ ap (λ k. true ∷ binary n k) rest ∙ ap (λ bs. true ∷ bs) (binary-number bits)
binary-number (false ∷ bits) =
    let n : ℕ = length bits in
    let none : 0 + number bits ≡ number bits = omega arith in
    let small : leb (2 ^ n) (number bits) ≡ false = lt-leb (2 ^ n) (number bits) (number-lt bits) in
    ap (λ k. cond (leb (2 ^ n) k) (true ∷ binary n (k - 2 ^ n)) (false ∷ binary n k)) none
    ∙ ap (λ b. cond b (true ∷ binary n (number bits - 2 ^ n)) (false ∷ binary n (number bits))) small ∙ ap (λ bs. false ∷ bs) (binary-number bits)

pub number_push : (bits : List Bool) (b : Bool) → number (bits ++ b ∷ []) ≡ 2 * number bits + cond b 1 0
unfolding number
number_push [] true = omega arith
number_push [] false = omega arith
number_push (true ∷ bits) b =
    let rest : number (bits ++ b ∷ []) ≡ 2 * number bits + cond b 1 0 = number_push bits b in
    let long : length (bits ++ b ∷ []) ≡ suc (length bits) = length_push bits b ∙ omega arith in
    let size : 2 ^ length (bits ++ b ∷ []) ≡ 2 ^ suc (length bits) = ap (λ k. 2 ^ k) long in
    omega (arith, twice (length bits))
number_push (false ∷ bits) b =
    let rest : number (bits ++ b ∷ []) ≡ 2 * number bits + cond b 1 0 = number_push bits b in
    omega arith

-- ---- widths

lt_pow : (n : ℕ) → n < 2 ^ n
lt_pow zero = omega arith
lt_pow (suc n) = omega (arith, lt_pow n, twice n)

pub width-enough : (n : ℕ) → n ≤ 2 ^ width n
unfolding width
width-enough n = by (cases_lt (position_or_len (λ w. leb n (2 ^ w)) (range_with_len 0 n)) n)
  where
    by : (position_or_len (λ w. leb n (2 ^ w)) (range_with_len 0 n) < n) ⊎ (n ≤ position_or_len (λ w. leb n (2 ^ w)) (range_with_len 0 n)) → n ≤ 2 ^ position_or_len (λ w. leb n (2 ^ w)) (range_with_len 0 n)
    by (inl h) =
        let w : ℕ = position_or_len (λ w. leb n (2 ^ w)) (range_with_len 0 n) in
        let passes : leb n (2 ^ get_or (range_with_len 0 n) w 0) ≡ true = passes_at_first (λ w. leb n (2 ^ w)) (range_with_len 0 n) 0 (omega (arith, length-range_with_len 0 n)) in
        let at : get_or (range_with_len 0 n) w 0 ≡ w = get_or-range_with_len 0 n w 0 h ∙ omega arith in
        leb-true n (2 ^ w) (ap (λ k. leb n (2 ^ k)) (sym at) ∙ passes)
    by (inr h) = omega (arith, lt_pow (position_or_len (λ w. leb n (2 ^ w)) (range_with_len 0 n)))

pub width-least : (n b : ℕ) → n ≤ 2 ^ b → width n ≤ b
unfolding width
width-least n b h = by (cases_lt b (position_or_len (λ w. leb n (2 ^ w)) (range_with_len 0 n)))
  where
    by : (b < position_or_len (λ w. leb n (2 ^ w)) (range_with_len 0 n)) ⊎ (position_or_len (λ w. leb n (2 ^ w)) (range_with_len 0 n) ≤ b) → position_or_len (λ w. leb n (2 ^ w)) (range_with_len 0 n) ≤ b
    by (inl less) =
        let within : b < n = omega (arith, prefix_len-le-length (λ w. not (leb n (2 ^ w))) (range_with_len 0 n), length-range_with_len 0 n) in
        let fails : leb n (2 ^ get_or (range_with_len 0 n) b 0) ≡ false = fails_before_first (λ w. leb n (2 ^ w)) (range_with_len 0 n) b 0 less in
        let at : get_or (range_with_len 0 n) b 0 ≡ b = get_or-range_with_len 0 n b 0 within ∙ omega arith in
        absurd (false≢true (sym fails ∙ ap (λ k. leb n (2 ^ k)) at ∙ le-leb n (2 ^ b) h))
    by (inr enough) = enough

pub width_is : (n b : ℕ) → n ≤ 2 ^ b → ((k : ℕ) → n ≤ 2 ^ k → b ≤ k) → width n ≡ b
width_is n b enough least = omega (arith, width-least n b enough, least (width n) (width-enough n))

-- a power that is above a is no smaller than one that is at most twice a and one more
pub half_below : (a k m : ℕ) → suc a ≤ 2 ^ k → 2 ^ m ≤ 2 * a + 1 → m ≤ k
half_below a k m above near = by (cases_lt k m)
  where
    by : (k < m) ⊎ (m ≤ k) → m ≤ k
    by (inl less) =
        let two : 0 < 2 = omega arith in
        let grows : 2 ^ suc k ≤ 2 ^ m = pow-le-pow_right {n = 2} two {i = suc k} {j = m} less in
        absurd (omega (arith, twice k))
    by (inr enough) = enough

-- ---- the steps of the program

pub binary_half : (w n : ℕ) (bits : List Bool) → 2 ^ w ≤ n → (bits ++ true ∷ []) ++ binary w (n - 2 ^ w) ≡ bits ++ binary (suc w) n
unfolding binary
binary_half w n bits h =
    append_assoc bits (true ∷ []) (binary w (n - 2 ^ w))
    ∙ ap (λ b. bits ++ cond b (true ∷ binary w (n - 2 ^ w)) (false ∷ binary w n)) (sym (le-leb (2 ^ w) n h))

pub binary_less : (w n : ℕ) (bits : List Bool) → n < 2 ^ w → (bits ++ false ∷ []) ++ binary w n ≡ bits ++ binary (suc w) n
unfolding binary
binary_less w n bits h =
    append_assoc bits (false ∷ []) (binary w n)
    ∙ ap (λ b. bits ++ cond b (true ∷ binary w (n - 2 ^ w)) (false ∷ binary w n)) (sym (lt-leb (2 ^ w) n h))

pub binary_none : (n : ℕ) (bits : List Bool) → bits ≡ bits ++ binary 0 n
unfolding binary
binary_none n bits = sym (append-nil bits)

pub number_none : 0 ≡ number []
unfolding number
number_none = refl

-- a number of at most 64 bits, fewer than all, has room for one more
pub number_more : (bits : List Bool) (i : ℕ) (b : Bool) (d : Bool) → i < length bits → length bits ≤ 64 → b ≡ get_or bits i d → (2 * number (take i bits) + 1 < 2 ^ 64) × (number (take (i + 1) bits) ≡ 2 * number (take i bits) + cond b 1 0)
number_more bits i b d l few e =
    let next : take (i + 1) bits ≡ take i bits ++ b ∷ [] = take_more bits i d l ∙ ap (λ x. take i bits ++ x ∷ []) (sym e) in
    let below : number (take i bits) < 2 ^ length (take i bits) = number-lt (take i bits) in
    let long : 2 ^ length (take i bits) ≡ 2 ^ i = ap (λ k. 2 ^ k) (length-take-le i bits (omega arith)) in
    let two : 0 < 2 = omega arith in
    let grows : 2 ^ suc i ≤ 2 ^ 64 = pow-le-pow_right {n = 2} two {i = suc i} {j = 64} (omega arith) in
    (omega (arith, twice i), ap number next ∙ number_push (take i bits) b)
