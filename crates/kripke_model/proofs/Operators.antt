-- The values and faults of operators, braces and `case`, each on a small expression.
use Rattle.std.proofs.Common.{◌≡◌, ℕ, List, [], ◌∷◌, refl, negsuc}
use Rattle.std.specs.Prelude.{Ok, Err, Some, None}
use Rattle.kripke_model.specs.declared.expressions.Value.{Value}
use Rattle.kripke_model.specs.declared.expressions.Value.TheVariants.{Number}
use Rattle.kripke_model.specs.declared.expressions.BinOp.{BinOp}
use Rattle.kripke_model.specs.declared.expressions.FaultKind.{FaultKind}
use Rattle.kripke_model.specs.Term.{Term, none, more, esac, arm}
use Rattle.kripke_model.specs.Evaluation.{Checked, eval, condition_fault, right_side_fault}
use Rattle.kripke_model.proofs.Latch.{num, bit, latch, state, x_term}
use Rattle.kripke_model.proofs.Examples.{constant, symbol}

-- at a state where x is 0, with a next state where it is 1
abbrev value_of : Term → Checked (List Value)
value_of e = eval latch e (state 0 0) (state 1 1)

abbrev minus : ℕ → Term
minus n = Term.Binary BinOp.Sub (constant 0) (constant n)

abbrev with_op : BinOp → Term → Term → Term
with_op op a b = Term.Binary op a b

abbrev two : Term → Term → Term
two a b = Term.Braces (more a (more b none))

-- a fault of its own
abbrev faulting : Term
faulting = with_op BinOp.Div (constant 1) (constant 0)

-- ---- numbers

-- a quotient is truncated toward zero
pub quotient_of_negative : value_of (with_op BinOp.Div (minus 7) (constant 2)) ≡ Ok (Number (negsuc 2) ∷ [])
quotient_of_negative = refl

pub quotient_by_negative : value_of (with_op BinOp.Div (constant 7) (minus 2)) ≡ Ok (Number (negsuc 2) ∷ [])
quotient_by_negative = refl

-- a remainder has the dividend's sign
pub remainder_of_negative : value_of (with_op BinOp.Mod (minus 7) (constant 2)) ≡ Ok (Number (negsuc 0) ∷ [])
remainder_of_negative = refl

pub remainder_by_negative : value_of (with_op BinOp.Mod (constant 7) (minus 2)) ≡ Ok (num 1 ∷ [])
remainder_by_negative = refl

pub no_divisor : value_of faulting ≡ Err FaultKind.ZeroDivisor
no_divisor = refl

pub no_modulus : value_of (with_op BinOp.Mod (constant 1) (constant 0)) ≡ Err FaultKind.ZeroDivisor
no_modulus = refl

pub above_range : value_of (with_op BinOp.Add (constant 2147483647) (constant 1)) ≡ Err FaultKind.Overflow
above_range = refl

abbrev least : Term
least = with_op BinOp.Sub (minus 2147483647) (constant 1)

pub least_number : value_of least ≡ Ok (Number (negsuc 2147483647) ∷ [])
least_number = refl

pub below_range : value_of (with_op BinOp.Sub least (constant 1)) ≡ Err FaultKind.Overflow
below_range = refl

pub quotient_above_range : value_of (with_op BinOp.Div least (minus 1)) ≡ Err FaultKind.Overflow
quotient_above_range = refl

-- the remainder alone is tested, and it is 0
pub remainder_of_least : value_of (with_op BinOp.Mod least (minus 1)) ≡ Ok (num 0 ∷ [])
remainder_of_least = refl

-- ---- comparisons and logic

pub number_is_no_symbol : value_of (with_op BinOp.Eq (constant 0) (symbol 0)) ≡ Ok (num 0 ∷ [])
number_is_no_symbol = refl

pub symbols_have_no_order : value_of (with_op BinOp.Lt (constant 0) (symbol 0)) ≡ Err FaultKind.NotNumber
symbols_have_no_order = refl

pub above : value_of (with_op BinOp.Gt (constant 2) (constant 1)) ≡ Ok (num 1 ∷ [])
above = refl

pub not_below_itself : value_of (with_op BinOp.Lt (constant 1) (constant 1)) ≡ Ok (num 0 ∷ [])
not_below_itself = refl

pub implied_by_false : value_of (with_op BinOp.Implies (constant 0) (constant 1)) ≡ Ok (num 1 ∷ [])
implied_by_false = refl

pub not_implied : value_of (with_op BinOp.Implies (constant 1) (constant 0)) ≡ Ok (num 0 ∷ [])
not_implied = refl

pub not_equivalent : value_of (with_op BinOp.Iff (constant 0) (constant 1)) ≡ Ok (num 0 ∷ [])
not_equivalent = refl

pub two_is_no_truth_value : value_of (Term.Not (constant 2)) ≡ Err FaultKind.NotBoolean
two_is_no_truth_value = refl

-- ---- the order of faults

-- both operands are evaluated
pub right_side_is_evaluated : value_of (with_op BinOp.And (constant 0) faulting) ≡ Err FaultKind.ZeroDivisor
right_side_is_evaluated = refl

-- the left operand is tested before the right one is evaluated
pub left_side_is_tested_first : value_of (with_op BinOp.Add (symbol 0) faulting) ≡ Err FaultKind.NotNumber
left_side_is_tested_first = refl

pub left_side_faults_first : value_of (with_op BinOp.Add faulting (symbol 0)) ≡ Err FaultKind.ZeroDivisor
left_side_faults_first = refl

-- of one operand, that it is single is tested first
pub many_values_come_first : value_of (with_op BinOp.Add (two (symbol 0) (symbol 1)) (constant 1)) ≡ Err FaultKind.ManyValues
many_values_come_first = refl

-- ---- sets

-- each value once, at its first place
pub union_in_order : value_of (with_op BinOp.Union (two (constant 1) (constant 0)) (two (constant 0) (constant 2))) ≡ Ok (num 1 ∷ num 0 ∷ num 2 ∷ [])
union_in_order = refl

pub braces_in_order : value_of (two (two (constant 1) (constant 0)) (constant 1)) ≡ Ok (num 1 ∷ num 0 ∷ [])
braces_in_order = refl

-- a set that comes to one value is a single one
pub set_of_one : value_of (Term.Not (two (constant 1) (constant 1))) ≡ Ok (num 0 ∷ [])
set_of_one = refl

pub member : value_of (with_op BinOp.Member (constant 1) (two (constant 0) (constant 1))) ≡ Ok (num 1 ∷ [])
member = refl

pub member_of_single : value_of (with_op BinOp.Member (constant 1) (constant 2)) ≡ Ok (num 0 ∷ [])
member_of_single = refl

pub set_in_set : value_of (with_op BinOp.Member (two (constant 0) (constant 1)) (two (constant 0) (constant 1))) ≡ Err FaultKind.ManyValues
set_in_set = refl

-- ---- `case` and `next`

-- conditions and right sides beyond the chosen one are not evaluated
pub first_arm : value_of (Term.Case (arm (constant 1) (constant 5) (arm faulting faulting esac))) ≡ Ok (num 5 ∷ [])
first_arm = refl

pub second_arm : value_of (Term.Case (arm (constant 0) faulting (arm (constant 1) (constant 6) (arm (constant 1) (constant 7) esac)))) ≡ Ok (num 6 ∷ [])
second_arm = refl

pub no_arm : value_of (Term.Case (arm (constant 0) (constant 5) esac)) ≡ Ok (num 1 ∷ [])
no_arm = refl

pub many_conditions : value_of (Term.Case (arm (two (constant 0) (constant 1)) (constant 5) esac)) ≡ Err FaultKind.ManyValues
many_conditions = refl

pub current_value : value_of x_term ≡ Ok (num 0 ∷ [])
current_value = refl

pub next_value : value_of (Term.Next x_term) ≡ Ok (num 1 ∷ [])
next_value = refl

-- ---- items

pub condition_of_many : condition_fault latch (two (constant 0) (constant 1)) (state 0 0) (state 0 0) ≡ Some FaultKind.ManyValues
condition_of_many = refl

pub condition_of_two : condition_fault latch (constant 2) (state 0 0) (state 0 0) ≡ Some FaultKind.NotBoolean
condition_of_two = refl

pub condition_of_zero : condition_fault latch (constant 0) (state 0 0) (state 0 0) ≡ None
condition_of_zero = refl

-- a variable may be assigned many values, all of its type
pub right_side_of_many : right_side_fault latch bit (two (constant 0) (constant 1)) (state 0 0) (state 0 0) ≡ None
right_side_of_many = refl

pub right_side_beyond_type : right_side_fault latch bit (two (constant 0) (constant 2)) (state 0 0) (state 0 0) ≡ Some FaultKind.OutOfType
right_side_beyond_type = refl
