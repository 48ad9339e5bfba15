-- What the tests of states keep of a list of values: the first one, and whether another one differs from it.
use Rattle.std.specs.Prelude.{Bool, false, not, ◌||◌, ◌&&◌, if◌then◌else◌, List, [], ◌∷◌, ℤ, pos, negsuc, int_lt, int_le, int_div, int_rem, ◌+ℤ◌, ◌-ℤ◌, ◌*ℤ◌, Ok, Err}
use Rattle.std.specs.Ordering.{int_eq}
use Rattle.std.specs.List.{list_any}
use Rattle.kripke_model.specs.declared.expressions.Value.{Value}
use Rattle.kripke_model.specs.declared.expressions.Value.TheVariants.{Number}
use Rattle.kripke_model.specs.declared.expressions.BinOp.{BinOp}
use Rattle.kripke_model.specs.declared.expressions.FaultKind.{FaultKind}
use Rattle.single_states.specs.declared.evaluation.Summary.{Summary}
use Rattle.kripke_model.specs.Evaluation.{Checked, ◌>>=◌, same, among, truth_value, as_number, as_boolean}
use Rattle.kripke_model.specs.Operators.{in_bounds, logic}

abbrev pub summary : List Value → Summary
summary [] = record { first = Number (pos 0); many = false }
summary (v ∷ vs) = record { first = v; many = list_any (λ w. not (same v w)) vs }

abbrev pub summarized : Checked (List Value) → Checked Summary
summarized c = c >>= λ vs. Ok (summary vs)

abbrev pub one : Value → Summary
one v = record { first = v; many = false }

abbrev pub joined : Summary → Summary → Summary
joined x y = record { first = x.first; many = x.many || y.many || not (same x.first y.first) }

abbrev pub only : Summary → Checked Value
only x = if x.many then Err FaultKind.ManyValues else Ok x.first

abbrev pub arithmetic : BinOp → ℤ → ℤ → Checked Value
arithmetic BinOp.Mul i j = in_bounds (i *ℤ j)
arithmetic BinOp.Div i j
    = if int_eq j (pos 0) then Err FaultKind.ZeroDivisor else in_bounds (int_div i j)
arithmetic BinOp.Add i j = in_bounds (i +ℤ j)
arithmetic BinOp.Sub i j = in_bounds (i -ℤ j)
arithmetic BinOp.Mod i j
    = if int_eq j (pos 0) then Err FaultKind.ZeroDivisor else in_bounds (int_rem i j)
arithmetic BinOp.Lt i j = Ok (truth_value (int_lt i j))
arithmetic BinOp.Gt i j = Ok (truth_value (int_lt j i))
arithmetic BinOp.Le i j = Ok (truth_value (int_le i j))
arithmetic BinOp.Ge i j = Ok (truth_value (int_le j i))
arithmetic op i j = Err FaultKind.NotNumber

abbrev pub only_number : Summary → Checked ℤ
only_number x = only x >>= as_number

abbrev pub only_boolean : Summary → Checked Bool
only_boolean x = only x >>= as_boolean

abbrev pub numbers : BinOp → Summary → Checked Summary → Checked Value
numbers op x y = do
  i ← only_number x
  j ← y >>= only_number
  arithmetic op i j

abbrev pub booleans : BinOp → Summary → Checked Summary → Checked Value
booleans op x y = do
  a ← only_boolean x
  c ← y >>= only_boolean
  Ok (truth_value (logic op a c))

abbrev pub equality : Summary → Checked Summary → Checked Value
equality x y = do
  v ← only x
  w ← y >>= only
  Ok (truth_value (same v w))

-- the value of an operator that has a single one
abbrev pub binary_value : BinOp → Summary → Checked Summary → Checked Value
binary_value BinOp.Eq x y = equality x y
binary_value BinOp.And x y = booleans BinOp.And x y
binary_value BinOp.Or x y = booleans BinOp.Or x y
binary_value BinOp.Implies x y = booleans BinOp.Implies x y
binary_value BinOp.Iff x y = booleans BinOp.Iff x y
binary_value op x y = numbers op x y

-- the operators with a single value
abbrev pub IsSingleValued : BinOp → Type 0
IsSingleValued BinOp.Union = ⊥
IsSingleValued BinOp.Member = ⊥
IsSingleValued op = Unit {0}

-- whether v is among the values
abbrev pub found : Value → Checked (List Value) → Checked Bool
found v c = c >>= λ vs. Ok (among v vs)

-- ---- results of operators, from the results of their operands

abbrev pub negated : Checked Summary → Checked Summary
negated x = x >>= λ a. only_boolean a >>= λ b. Ok (one (truth_value (not b)))

abbrev pub united : Checked Summary → Checked Summary → Checked Summary
united x y = x >>= λ a. y >>= λ b. Ok (joined a b)

abbrev pub combined : BinOp → Checked Summary → Checked Summary → Checked Summary
combined op x y = x >>= λ a. binary_value op a y >>= λ v. Ok (one v)

abbrev pub decided : Checked Bool → Checked Summary
decided c = c >>= λ b. Ok (one (truth_value b))

abbrev pub either : Checked Bool → Checked Bool → Checked Bool
either x y = x >>= λ a. y >>= λ b. Ok (a || b)

abbrev pub first_is : Checked Summary → Value → Checked Bool
first_is x v = x >>= λ a. Ok (same v a.first)

abbrev pub boolean_of : Checked Summary → Checked Bool
boolean_of x = x >>= only_boolean

abbrev pub single_of : Checked Summary → Checked Value
single_of x = x >>= only
