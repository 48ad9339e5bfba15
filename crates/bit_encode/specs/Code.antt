-- Which bits stand for a state. The code of a value is its place in its variable's type, and the codes of the
-- variables' values stand one after the other in a given order of the variables.
use Rattle.std.specs.Prelude.{◌≡◌, ℕ, zero, suc, ◌+◌, ◌<◌, ◌≤◌, ◌==◌, Bool, List, [], ◌∷◌, ◌++◌, length, map, take, drop, sum_by, count_by, All, Contains}
use Rattle.std.specs.List.{slice_index_or, flat_map, position_or_len, before_first}
use Rattle.kripke_model.specs.declared.expressions.Value.{Value}
use Rattle.kripke_model.specs.System.{System, State, value_in}
use Rattle.kripke_model.specs.Evaluation.{same}
use Rattle.kripke_model.specs.Flat.{AreDistinct}
use Rattle.bit_encode.specs.Binary.{number, binary, width}

-- the values of each variable's type, in declared order, and the order in which the variables have their bits
pub record Coding : Type 0 where
  pub types : List (List Value)
  pub order : List ℕ

-- the types of the model's variables
abbrev pub types_of : System → List (List Value)
types_of m = map (λ v. v.values) m.vars

-- the values of variable x
abbrev pub values_of : List (List Value) → ℕ → List Value
values_of types x = slice_index_or types x []

abbrev pub width_of : List (List Value) → ℕ → ℕ
width_of types x = width (length (values_of types x))

-- how many bits a state has
abbrev pub bit_count : List (List Value) → ℕ
bit_count types = sum_by (λ values. width (length values)) types

-- how many bits a state of the model has
abbrev pub state_bits : System → ℕ
state_bits m = bit_count (types_of m)

-- the order names each of n variables once, and nothing else
pub record IsOrder (n : ℕ) (order : List ℕ) : Type 0 where
  pub known : All (λ x. x < n) order
  pub once : (x : ℕ) → x < n → count_by (λ y. y == x) order ≡ 1

-- the declared order of n variables is 0, 1, .., n - 1
abbrev pub declared : ℕ → List ℕ
declared zero = []
declared (suc n) = declared n ++ n ∷ []

-- no type has a value twice
abbrev pub AllDistinct : List (List Value) → Type 0
AllDistinct types = All (λ values. AreDistinct values) types

-- no variable of the model has a value twice
abbrev pub HasDistinctValues : System → Type 0
HasDistinctValues m = All (λ v. AreDistinct v.values) m.vars

-- one value of its type for each variable
pub record IsStateOf (types : List (List Value)) (s : State) : Type 0 where
  pub each : length s ≡ length types
  pub typed : (x : ℕ) → x < length types → Contains (values_of types x) (value_in s x)

-- the place of a value in its type
abbrev pub place : List Value → Value → ℕ
place values v = position_or_len (same v) values

abbrev pub value_code : List (List Value) → State → ℕ → List Bool
value_code types s x = binary (width_of types x) (place (values_of types x) (value_in s x))

-- the bits of a state
abbrev pub code : Coding → State → List Bool
code c s = flat_map (value_code c.types s) c.order

-- the place of the first bit of variable x: behind those of the variables that stand before it in the order
abbrev pub first_bit : Coding → ℕ → ℕ
first_bit c x = sum_by (width_of c.types) (before_first (λ y. y == x) c.order)

-- the place of bit b of variable x, where bit 0 is the most significant one
abbrev pub bit_place : Coding → ℕ → ℕ → ℕ
bit_place c x b = first_bit c x + b

pub record HasBit (c : Coding) (x b : ℕ) : Type 0 where
  pub known : x < length c.types
  pub within : b < width_of c.types x

-- the bits of variable x
abbrev pub field : Coding → ℕ → List Bool → List Bool
field c x bits = take (width_of c.types x) (drop (first_bit c x) bits)

-- the bits of variable x are the code of one of its values
abbrev pub IsUsed : Coding → List Bool → ℕ → Type 0
IsUsed c bits x = number (field c x bits) < length (values_of c.types x)

-- they are the code of none
abbrev pub IsUnused : Coding → List Bool → ℕ → Type 0
IsUnused c bits x = length (values_of c.types x) ≤ number (field c x bits)

-- as many bits as a state has, and a used code for each variable
pub record IsValid (c : Coding) (bits : List Bool) : Type 0 where
  pub long : length bits ≡ bit_count c.types
  pub used : (x : ℕ) → x < length c.types → IsUsed c bits x
