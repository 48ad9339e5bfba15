-- What the parts of an expression may add, within what the whole may add.
use Rattle.std.proofs.Common.{ℕ, ◌+◌, ◌*◌, ◌≤◌, arith}
use Rattle.std.proofs.lemmas.Nat.{mul-le}
use Rattle.std.proofs.Math.Nat.{mul-le-mul_left, mul-le-mul_right}
use Rattle.value_tables.specs.Work.{allowance, list_allowance, operator_allowance}

pub allowance-least : (n u : ℕ) → 16 * u ≤ allowance n u
allowance-least n u = omega arith

pub allowance-next : (n u : ℕ) → allowance n u ≤ allowance (1 + n) u
allowance-next n u = omega arith

pub allowance-not : (n u l : ℕ) → l ≤ n * u → 1 ≤ u → allowance n u + (7 * l + 4) ≤ allowance (1 + n) u
allowance-not n u l h k = omega arith

pub allowance-left : (a b u : ℕ) → allowance a u ≤ allowance (1 + a + b) u
allowance-left a b u = omega arith

pub allowance-both : (a b u : ℕ) → allowance a u + allowance b u ≤ allowance (1 + a + b) u
allowance-both a b u = omega arith

pub allowance-binary : (a b u l r : ℕ) → l ≤ a * u → r ≤ b * u → 1 ≤ u → allowance a u + allowance b u + operator_allowance l r u ≤ allowance (1 + a + b) u
allowance-binary a b u l r h k some = omega arith

pub list_allowance-mono : (k t u : ℕ) → k ≤ t → list_allowance k u ≤ list_allowance t u
list_allowance-mono k t u h = mul-le-mul_right u (mul-le-mul_left 16 (mul-le k (k + 4) t (t + 4) h (omega arith)))

pub list_allowance-whole : (k u : ℕ) → list_allowance k u ≤ allowance (1 + k) u
list_allowance-whole k u = omega arith

pub list_allowance-last : (k u : ℕ) → 1 ≤ u → list_allowance k u + 1 ≤ allowance (1 + k) u
list_allowance-last k u some = omega arith

-- a list of one element
pub allowance-element : (n u : ℕ) → 1 ≤ n → allowance n u ≤ list_allowance n u
allowance-element n u one = omega (arith, mul-le-mul_left u one)

-- two lists and their union
pub allowance-halves : (k n u l r : ℕ) → 1 ≤ k → 1 ≤ n → l ≤ k * u → r ≤ n * u → 1 ≤ u → list_allowance k u + list_allowance n u + (5 * l + 5 * r + 3) ≤ list_allowance (k + n) u
allowance-halves k n u l r one two h j some = omega (arith, mul-le-mul_left (k * u) two, mul-le-mul_left (n * u) one, mul-le-mul_left u one)

pub allowance-arm : (a b u l r : ℕ) → 1 ≤ a → 1 ≤ b → l ≤ a * u → r ≤ b * u → 1 ≤ u → allowance a u + allowance b u + (7 * l + 2 * r + 6) ≤ list_allowance (a + b) u
allowance-arm a b u l r one two h j some = omega (arith, mul-le-mul_left (a * u) two, mul-le-mul_left u one, mul-le-mul_left u two)

pub list_allowance-join : (k n u : ℕ) → list_allowance k u + list_allowance n u ≤ list_allowance (k + n) u
list_allowance-join k n u = omega arith
