-- The pointwise operations on diagrams.
use Rattle.std.specs.Prelude.{◌≡◌, ℕ, ◌≤◌, Bool, not, ◌&&◌, ◌||◌, ◌==◌, ◌⊎◌, if◌then◌else◌, max, List}
use Rattle.std.specs.Option.{option_map_or}
use Rattle.bdd_nodes.specs.declared.triple.Triple.{Triple}
use Rattle.bdd_nodes.specs.Table.{node_of, level_of, value_of, Has}
use Rattle.bdd_ops.specs.declared.key.Key.{Key}
use Rattle.bdd_ops.specs.declared.key.Key.TheVariants as key
use Rattle.bdd_ops.specs.Answer.{key_highest, key_weight, key_top}
use Rattle.bdd_ops.specs.declared.operation.Operation.{Operation}
use Rattle.bdd_ops.specs.declared.operation.Operation.TheVariants.{Not, And, Or, Iff, Ite}

-- what the operation makes of its operands' values
abbrev pub combine : (ℕ → Bool) → Operation → Bool
combine v (Not f) = not (v f)
combine v (And f g) = v f && v g
combine v (Or f g) = v f || v g
combine v (Iff f g) = if v f then v g else not (v g)
combine v (Ite f g h) = if v f then v g else v h

-- the operation's value at a list of bits
abbrev pub operation_of : List Triple → Operation → List Bool → Bool
operation_of table k bits = combine (λ r. value_of table r bits) k

-- the key of the operation's cache entry
abbrev pub key_of : Operation → Key
key_of (Not f) = key.Not f
key_of (And f g) = key.And f g
key_of (Or f g) = key.Or f g
key_of (Iff f g) = key.Iff f g
key_of (Ite f g h) = key.Ite f g h

-- the highest operand
abbrev pub highest_of : Operation → ℕ
highest_of k = key_highest (key_of k)

-- the operands together
abbrev pub weight_of : Operation → ℕ
weight_of k = key_weight (key_of k)

-- the least level of an operand
abbrev pub top_of : ℕ → List Triple → Operation → ℕ
top_of levels table k = key_top levels table (key_of k)

-- the same operation on other operands
abbrev pub with_operands : (ℕ → ℕ) → Operation → Operation
with_operands p (Not f) = Not (p f)
with_operands p (And f g) = And (p f) (p g)
with_operands p (Or f g) = Or (p f) (p g)
with_operands p (Iff f g) = Iff (p f) (p g)
with_operands p (Ite f g h) = Ite (p f) (p g) (p h)

-- some operand meets P
abbrev pub SomeOperand : (ℕ → Type 0) → Operation → Type 0
SomeOperand P (Not f) = P f
SomeOperand P (And f g) = P f ⊎ P g
SomeOperand P (Or f g) = P f ⊎ P g
SomeOperand P (Iff f g) = P f ⊎ P g
SomeOperand P (Ite f g h) = P f ⊎ (P g ⊎ P h)

-- the child of a number for a bit of this level: the number itself where its level is another
unfoldable pub part_of : List Triple → ℕ → Bool → ℕ → ℕ
part_of table level bit r
    = option_map_or
    (λ (t : Triple). if t.level == level then (if bit then t.high else t.low) else r)
    (node_of table r) r

-- the operands don't show the answer
abbrev pub IsOpen : Operation → Type 0
IsOpen (Not f) = 2 ≤ f
IsOpen (And f g) = (2 ≤ f) × (2 ≤ g)
IsOpen (Or f g) = (2 ≤ f) × (2 ≤ g)
IsOpen (Iff f g) = 2 ≤ max f g
IsOpen (Ite f g h) = 2 ≤ f

-- the table has the operands
abbrev pub HasOperands : List Triple → Operation → Type 0
HasOperands table k = Has table (highest_of k)

-- the number is the operation's result
pub record IsResult (levels : ℕ) (table : List Triple) (k : Operation) (r : ℕ) : Type 0 where
  pub operands : HasOperands table k
  pub has : Has table r
  pub value : (bits : List Bool) → value_of table r bits ≡ operation_of table k bits
  pub deep : top_of levels table k ≤ level_of levels table r
