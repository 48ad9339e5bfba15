-- Small numbers as 32 bits.
use Rattle.std.proofs.Common.{◌≡◌, ℕ, zero, suc, ℤ, pos, negsuc, neg_ℤ, ◌≤◌, arith, to_z, of_z, w32, ◌-ℤ◌}
use Rattle.std.proofs.lemmas.Int.{ints, to_z-of_z}

pub small_value : (n : ℕ) → n ≤ 2147483647 → to_z w32 n ≡ pos n
small_value n h = omega (arith, ints)

pub small_negated : (n : ℕ) → n ≤ 2147483647 → to_z w32 (of_z w32 (pos 0 -ℤ to_z w32 n)) ≡ neg_ℤ (pos n)
small_negated zero h = omega (arith, ints)
small_negated (suc n) h = omega (arith, ints)
