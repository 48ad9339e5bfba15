-- Lemmas on the growth of the table in a product.
use Rattle.std.proofs.Common.{◌≡◌, ℕ, suc, ◌+◌, ◌-◌, ◌*◌, ◌^◌, ◌<◌, ◌≤◌, arith}
use Rattle.std.proofs.Math.Pow.{pow_mono}
use Rattle.std.proofs.Math.Nat.{pow-suc, mul-le-mul_left}
use Rattle.std.proofs.lemmas.Nat.{mul-pow, pow_pos}

-- each side takes at most half of the bound
pub half : (levels level top : ℕ) → level < top → level < levels → 2 ^ (levels - top) + 2 ^ (levels - top) ≤ 2 ^ (levels - level)
half levels level top deeper inside =
    let e : 2 ^ suc (levels - top) ≡ 2 ^ (levels - top) * 2 = pow-suc 2 (levels - top) in
    let m : 2 ^ suc (levels - top) ≤ 2 ^ (levels - level) = pow_mono (omega arith) in
    omega arith

-- nothing was added
pub count-none : (levels top count : ℕ) → count + 2 ^ levels ≤ count + 2 ^ levels * 2 ^ (levels - top)
count-none levels top count = let m = mul-le-mul_left {m = 1} {n = 2 ^ (levels - top)} (2 ^ levels) (pow_pos (levels - top)) in omega (arith, m)

-- one operation added
pub count-one : (levels top before after : ℕ) → top < levels → after ≤ before + 2 ^ levels → after + 2 ^ levels ≤ before + 2 ^ levels * 2 ^ (levels - top)
count-one levels top before after inside h =
    let e : 2 ≤ 2 ^ (levels - top) = pow_mono {i = 1} (omega arith) in
    let m : 2 ^ levels * 2 ≤ 2 ^ levels * 2 ^ (levels - top) = mul-le-mul_left (2 ^ levels) e in
    omega (arith, m)

plain : (M P Q R before between after last : ℕ) → M * (P + P) ≤ M * R → M * (Q + Q) ≤ M * R → between + M ≤ before + M * P → after + M ≤ between + M * Q → last ≤ after + M → last + M ≤ before + M * R
plain M P Q R before between after last a b h i j = omega arith

plain-low : (M P R before after : ℕ) → M * (P + P) ≤ M * R → after + M ≤ before + M * P → after + M ≤ before + M * R
plain-low M P R before after a h = omega arith

-- what one side added, both, and both with the operation that joins them
pub count-low : (levels level top before after : ℕ) → level < top → level < levels → after + 2 ^ levels ≤ before + 2 ^ levels * 2 ^ (levels - top) → after + 2 ^ levels ≤ before + 2 ^ levels * 2 ^ (levels - level)
count-low levels level top before after deeper inside h = plain-low (2 ^ levels) (2 ^ (levels - top)) (2 ^ (levels - level)) before after (mul-le-mul_left (2 ^ levels) (half levels level top deeper inside)) h

pub count-both : (levels level low high before between after last : ℕ) → level < low → level < high → level < levels
    → between + 2 ^ levels ≤ before + 2 ^ levels * 2 ^ (levels - low) → after + 2 ^ levels ≤ between + 2 ^ levels * 2 ^ (levels - high) → last ≤ after + 2 ^ levels
    → last + 2 ^ levels ≤ before + 2 ^ levels * 2 ^ (levels - level)
count-both levels level low high before between after last a b inside h i j =
    plain (2 ^ levels) (2 ^ (levels - low)) (2 ^ (levels - high)) (2 ^ (levels - level)) before between after last
    (mul-le-mul_left (2 ^ levels) (half levels level low a inside)) (mul-le-mul_left (2 ^ levels) (half levels level high b inside)) h i j

-- the bound by all levels
pub count-whole : (levels top before after : ℕ) → after + 2 ^ levels ≤ before + 2 ^ levels * 2 ^ (levels - top) → after ≤ before + 4 ^ levels
count-whole levels top before after h =
    let m : 2 ^ levels * 2 ^ (levels - top) ≤ 2 ^ levels * 2 ^ levels = mul-le-mul_left (2 ^ levels) (pow_mono (omega arith)) in
    let e : 4 ^ levels ≡ 2 ^ levels * 2 ^ levels = mul-pow 2 2 levels in
    omega (arith, m, e)
