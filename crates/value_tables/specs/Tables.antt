-- What a table says of an expression.
use Rattle.std.specs.Prelude.{◌≡◌, ℕ, ◌≤◌, Bool, true, false, not, List, [], ◌∷◌, ◌++◌, length, count_by, Ok, Err}
use Rattle.kripke_model.specs.declared.expressions.Value.{Value}
use Rattle.kripke_model.specs.declared.expressions.BinOp.{BinOp}
use Rattle.kripke_model.specs.Evaluation.{Checked, ◌>>=◌, among, single, truth, boolean}
use Rattle.kripke_model.specs.Operators.{logic}
use Rattle.bdd_nodes.specs.declared.store.Store.{Store}
use Rattle.bdd_nodes.specs.Store.{value_of}
use Rattle.value_tables.specs.declared.cells.Cell.{Cell}
use Rattle.value_tables.specs.declared.pick.Pick.{Pick}
use Rattle.value_tables.specs.declared.pick.Test.{Test}
use Rattle.value_tables.specs.Cells.{same_reading, any_of, any_cell, region_at, Reads, AreCells}
use Rattle.value_tables.specs.Pick.{becomes, tested_value, outcome}

abbrev pub is_fault : Checked Value → Bool
is_fault (Ok v) = false
is_fault (Err kind) = true

abbrev pub is_failure : {A : Type 0} → Checked A → Bool
is_failure (Ok a) = false
is_failure (Err kind) = true

-- the reading is the result's fault
abbrev pub is_fault_of : {A : Type 0} → Checked A → Checked Value → Bool
is_fault_of (Ok a) k = false
is_fault_of (Err kind) k = same_reading k (Err kind)

-- the one value, or the fault
abbrev pub alone : Checked Value → Checked (List Value)
alone (Ok v) = Ok (v ∷ [])
alone (Err kind) = Err kind

-- some values, each once, or a fault
abbrev pub AreOnceValues : List Value → Type 0
AreOnceValues [] = Unit {0}
AreOnceValues (v ∷ vs) = (among v vs ≡ false) × AreOnceValues vs

abbrev pub IsProper : Checked (List Value) → Type 0
IsProper (Ok []) = ⊥
IsProper (Ok (v ∷ vs)) = AreOnceValues (v ∷ vs)
IsProper (Err kind) = Unit {0}

-- at most one value
abbrev pub IsSingle : Checked (List Value) → Type 0
IsSingle (Ok vs) = length vs ≤ 1
IsSingle (Err kind) = Unit {0}

-- how many cells have value 1
abbrev pub count_on : (ℕ → Bool) → List Cell → ℕ
count_on v cells = count_by (λ (c : Cell). v c.region) cells

-- the region of this reading has value 1
abbrev pub at_region : (ℕ → Bool) → List Cell → Checked Value → Bool
at_region v cells k = v (region_at cells k)

-- with the left operand r some right operand becomes k
abbrev pub pairs_to : (ℕ → Bool) → BinOp → Checked Value → List Cell → Checked Value → Bool
pairs_to v op k right (Ok x) = any_cell v (becomes (Pick.With op x) k) right
pairs_to v op k right (Err kind) = false

-- what a guard does: the reading comes from its fault, or, where it is 1, from the right side
abbrev pub arm_shows : Checked Bool → Checked (List Value) → Checked Value → Bool
arm_shows (Err kind) d k = same_reading k (Err kind)
arm_shows (Ok true) d k = any_of (same_reading k) d
arm_shows (Ok false) d k = false

abbrev pub goes_on : Checked Bool → Bool
goes_on (Err kind) = false
goes_on (Ok true) = false
goes_on (Ok false) = true

-- the cells of a store for a result at each list of bits, with at most one value where that is said
pub record IsTable (s : Store) (cells : List Cell) (single : Bool)
    (f : List Bool → Checked (List Value)) : Type 0 where
  pub regions : AreCells s cells
  pub reads : (bits : List Bool) → Reads (λ r. value_of s r bits) cells (f bits)
  pub at_most_one : single ≡ true → (bits : List Bool) → IsSingle (f bits)

-- ---- results of operators

-- the one value, where it passes the test
abbrev pub value_tested : Test → Checked (List Value) → Checked Value
value_tested test c = c >>= λ vs. single vs >>= tested_value test

abbrev pub one_tested : Test → Checked (List Value) → Checked (List Value)
one_tested test c = alone (value_tested test c)

-- the first fault of two operands
abbrev pub both : Checked (List Value) → Checked (List Value) → Checked (List Value)
both c d = c >>= λ vs. d

-- whether the hit is, where both operands have values; else the first fault
abbrev pub judged : Checked (List Value) → Checked (List Value) → Bool → Checked (List Value)
judged c d hit = both c d >>= λ vs. Ok (truth hit)

abbrev pub membership : Checked Value → Checked (List Value) → Checked (List Value)
membership a d = a >>= λ v. d >>= λ ws. Ok (truth (among v ws))

abbrev pub truths : Checked Bool → Checked (List Value)
truths a = a >>= λ x. Ok (truth x)

abbrev pub connective : BinOp → Checked Bool → Checked Bool → Checked (List Value)
connective op a b = a >>= λ x. b >>= λ y. Ok (truth (logic op x y))

-- the values of both operands, or the first fault
abbrev pub all_values : Checked (List Value) → Checked (List Value) → Checked (List Value)
all_values c d = c >>= λ vs. d >>= λ ws. Ok (vs ++ ws)

-- 0 or 1
abbrev pub guard_of : Checked (List Value) → Checked Bool
guard_of c = c >>= boolean

abbrev pub negation : Checked (List Value) → Checked (List Value)
negation c = guard_of c >>= λ b. Ok (truth (not b))

-- the outcome of two values
abbrev pub paired : BinOp → Checked Value → Checked Value → Checked Value
paired op a b = a >>= λ x. b >>= λ y. outcome op x y

-- an operand, with what is known of its values
pub record IsOperand (v : ℕ → Bool) (cells : List Cell) (single : Bool)
    (c : Checked (List Value)) : Type 0 where
  pub reads : Reads v cells c
  pub proper : IsProper c
  pub few : single ≡ true → IsSingle c

-- the cells of a store for a list of values at each list of bits
pub record IsSetTable (s : Store) (cells : List Cell)
    (f : List Bool → Checked (List Value)) : Type 0 where
  pub regions : AreCells s cells
  pub reads : (bits : List Bool) → Reads (λ r. value_of s r bits) cells (f bits)

-- ---- kinds of operators

abbrev pub IsUnion : BinOp → Type 0
IsUnion BinOp.Union = Unit {0}
IsUnion op = ⊥

abbrev pub IsMember : BinOp → Type 0
IsMember BinOp.Member = Unit {0}
IsMember op = ⊥

abbrev pub IsEquality : BinOp → Type 0
IsEquality BinOp.Eq = Unit {0}
IsEquality op = ⊥

abbrev pub IsConnective : BinOp → Type 0
IsConnective BinOp.And = Unit {0}
IsConnective BinOp.Or = Unit {0}
IsConnective BinOp.Implies = Unit {0}
IsConnective BinOp.Iff = Unit {0}
IsConnective op = ⊥

abbrev pub IsArithmetic : BinOp → Type 0
IsArithmetic BinOp.Mul = Unit {0}
IsArithmetic BinOp.Div = Unit {0}
IsArithmetic BinOp.Add = Unit {0}
IsArithmetic BinOp.Sub = Unit {0}
IsArithmetic BinOp.Mod = Unit {0}
IsArithmetic op = ⊥

abbrev pub IsOrder : BinOp → Type 0
IsOrder BinOp.Lt = Unit {0}
IsOrder BinOp.Gt = Unit {0}
IsOrder BinOp.Le = Unit {0}
IsOrder BinOp.Ge = Unit {0}
IsOrder op = ⊥
