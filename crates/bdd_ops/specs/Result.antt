-- Results of the pointwise operations, over a store.
use Rattle.std.specs.Prelude.{ℕ}
use Rattle.bdd_nodes.specs.declared.store.Store.{Store}
use Rattle.bdd_nodes.specs.Store.{levels_of, triples}
use Rattle.bdd_ops.specs.declared.operation.Operation.{Operation}
use Rattle.bdd_ops.specs.Operation as operation

-- the store has the operands
abbrev pub HasOperands : Store → Operation → Type 0
HasOperands s k = operation.HasOperands (triples s) k

-- the least level of an operand
abbrev pub top_of : Store → Operation → ℕ
top_of s k = operation.top_of (levels_of s) (triples s) k

-- r is the operation's result
abbrev pub IsResult : Store → Operation → ℕ → Type 0
IsResult s k r = operation.IsResult (levels_of s) (triples s) k r
