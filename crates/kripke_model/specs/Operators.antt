-- What operators make of numbers and of truth values.
use Rattle.std.specs.Prelude.{Bool, not, ◌||◌, ◌&&◌, if◌then◌else◌, ℤ, pos, negsuc, int_le, Ok, Err}
use Rattle.kripke_model.specs.declared.expressions.Value.{Value}
use Rattle.kripke_model.specs.declared.expressions.Value.TheVariants.{Number}
use Rattle.kripke_model.specs.declared.expressions.BinOp.{BinOp}
use Rattle.kripke_model.specs.declared.expressions.FaultKind.{FaultKind}
use Rattle.kripke_model.specs.Evaluation.{Checked}

-- numbers go from -2^31 to 2^31 - 1
abbrev pub in_bounds : ℤ → Checked Value
in_bounds i = if int_le (negsuc 2147483647) i
    && int_le i (pos 2147483647) then Ok (Number i) else Err FaultKind.Overflow

abbrev pub logic : BinOp → Bool → Bool → Bool
logic BinOp.And a b = a && b
logic BinOp.Or a b = a || b
logic BinOp.Implies a b = not a || b
logic op a b = if a then b else not b
