-- A number of 32 bits is a small one.
use Rattle.std.proofs.Common.{ℤ, pos, negsuc, FitsSigned, ◌<◌, ◌≤◌, ◌^◌, suc, arith, w32}
use Rattle.kripke_model.specs.declared.expressions.Value.TheVariants.{Number}
use Rattle.proof_text.specs.SmallNumbers.{IsSmallValue}

pub small_number : (z : ℤ) → FitsSigned w32 z → IsSmallValue (Number z)
small_number (pos n) h = let k : n < 2 ^ 31 = h.sfits in omega (arith, k)
small_number (negsuc n) h = let k : suc n ≤ 2 ^ 31 = h.sfits in omega (arith, k)
