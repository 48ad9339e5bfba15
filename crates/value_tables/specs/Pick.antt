-- What becomes of a reading.
use Rattle.std.specs.Prelude.{Bool, false, not, if◌then◌else◌, ℤ, pos, int_div, int_rem, ◌+ℤ◌, ◌-ℤ◌, ◌*ℤ◌, Ok, Err, Option, Some, None}
use Rattle.std.specs.Ordering.{int_eq}
use Rattle.std.specs.Option.{option_map_or}
use Rattle.kripke_model.specs.declared.expressions.Value.{Value}
use Rattle.kripke_model.specs.declared.expressions.Value.TheVariants.{Number}
use Rattle.kripke_model.specs.declared.expressions.BinOp.{BinOp}
use Rattle.kripke_model.specs.declared.expressions.FaultKind.{FaultKind}
use Rattle.kripke_model.specs.Evaluation.{Checked, ◌>>=◌, as_number, as_boolean, truth_value}
use Rattle.kripke_model.specs.Operators.{in_bounds}
use Rattle.value_tables.specs.declared.pick.Test.{Test}
use Rattle.value_tables.specs.declared.pick.Pick.{Pick}
use Rattle.value_tables.specs.Cells.{same_reading}

-- the value, where it passes the test
abbrev pub tested_value : Test → Value → Checked Value
tested_value Test.Any v = Ok v
tested_value Test.Number v = as_number v >>= λ i. Ok v
tested_value Test.Boolean v = as_boolean v >>= λ b. Ok v

abbrev pub negated_value : Value → Checked Value
negated_value v = as_boolean v >>= λ b. Ok (truth_value (not b))

abbrev pub arithmetic : BinOp → ℤ → ℤ → Checked Value
arithmetic BinOp.Mul i j = in_bounds (i *ℤ j)
arithmetic BinOp.Div i j
    = if int_eq j (pos 0) then Err FaultKind.ZeroDivisor else in_bounds (int_div i j)
arithmetic BinOp.Add i j = in_bounds (i +ℤ j)
arithmetic BinOp.Sub i j = in_bounds (i -ℤ j)
arithmetic BinOp.Mod i j
    = if int_eq j (pos 0) then Err FaultKind.ZeroDivisor else in_bounds (int_rem i j)
arithmetic op i j = Err FaultKind.NotNumber

-- what arithmetic makes of two values
abbrev pub outcome : BinOp → Value → Value → Checked Value
outcome op v w = do
  i ← as_number v
  j ← as_number w
  arithmetic op i j

-- what becomes of a reading, and None where it is left out
abbrev pub picked : Pick → Checked Value → Option (Checked Value)
picked Pick.All r = Some r
picked Pick.Values (Ok v) = Some (Ok v)
picked Pick.Values (Err kind) = None
picked Pick.Faults (Ok v) = None
picked Pick.Faults (Err kind) = Some (Err kind)
picked (Pick.Tested test) r = Some (r >>= tested_value test)
picked Pick.Negated r = Some (r >>= negated_value)
picked (Pick.With op v) (Ok w) = Some (outcome op v w)
picked (Pick.With op v) (Err kind) = None

-- the reading becomes k
abbrev pub becomes : Pick → Checked Value → Checked Value → Bool
becomes p k r = option_map_or (same_reading k) (picked p r) false
