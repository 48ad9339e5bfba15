-- Results of arithmetic that lie in 32 bits, and those that do not.
use Rattle.std.proofs.Common.{◌≡◌, refl, sym, ap, [], ◌∷◌, Bool, true, false, Some, None, arith, ℤ, pos, neg_ℤ, suc, ◌%◌}
use Rattle.std.specs.Prelude.{negsuc, int_le, int_rem, ◌&&◌, if◌then◌else◌, Ok, Err}
use Rattle.std.specs.Ordering.{int_eq}
use Rattle.kripke_model.specs.declared.expressions.Value.TheVariants.{Number}
use Rattle.kripke_model.specs.declared.expressions.FaultKind.{FaultKind}
use Rattle.kripke_model.specs.Evaluation.{in_range, divided}
use Rattle.smv_names.specs.Values.{ComesTo, bounded_number, quotient_number}

comes_by : (b : Bool) (z : ℤ) → ComesTo (if b then Ok (Number z ∷ []) else Err FaultKind.Overflow) (if b then Some z else None)
comes_by true z = refl
comes_by false z = λ n e. cc

pub comes_to : (z : ℤ) → ComesTo (in_range z) (bounded_number z)
comes_to z = comes_by (int_le (negsuc 2147483647) z && int_le z (pos 2147483647)) z

divided_by : (f : ℤ → ℤ → ℤ) (i j : ℤ) (b : Bool) → ComesTo (if b then Err FaultKind.ZeroDivisor else in_range (f i j)) (if b then None else bounded_number (f i j))
divided_by f i j true = λ n e. cc
divided_by f i j false = comes_to (f i j)

pub divided_comes_to : (f : ℤ → ℤ → ℤ) (i j : ℤ) → ComesTo (divided f i j) (quotient_number f i j)
divided_comes_to f i j = divided_by f i j (int_eq j (pos 0))

rem_by_one : (i : ℤ) → int_rem i (negsuc 0) ≡ pos 0
rem_by_one (pos n) = ap pos (omega arith)
rem_by_one (negsuc n) = let e : suc n % 1 ≡ 0 = omega arith in ap (λ k. neg_ℤ (pos k)) e

-- nothing is left of a division by -1
pub remainder_by_one : (i : ℤ) → Some (pos 0) ≡ quotient_number int_rem i (negsuc 0)
remainder_by_one i = sym (ap bounded_number (rem_by_one i))
