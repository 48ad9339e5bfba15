-- What the table of an operator has, from those of its two operands.
use Rattle.std.specs.Prelude.{◌≡◌, ◌^◌, Bool, true, List, length}
use Rattle.kripke_model.specs.declared.expressions.Value.{Value}
use Rattle.kripke_model.specs.declared.expressions.BinOp.{BinOp}
use Rattle.kripke_model.specs.Evaluation.{Checked, binary}
use Rattle.bdd_nodes.specs.declared.store.Store.{Store}
use Rattle.bdd_nodes.specs.Store.{levels_of, value_of}
use Rattle.value_tables.specs.declared.operands.Table.{Table}
use Rattle.value_tables.specs.Cells.{AreCells, Reads}
use Rattle.value_tables.specs.Tables.{IsOperand, IsSingle}
use Rattle.value_tables.specs.Work.{Spends, operator_allowance}

-- the table of an operator: its diagrams are of the store, its cells read as the operator's values
-- wherever those of the operands read as theirs, and where it says that there is one value at
-- most, there is
pub record IsTableOf (op : BinOp) (left right : Table) (old new : Store)
    (t : Table) : Type 0 where
  pub cells : AreCells new t.cells.items
  pub reads : (bits : List Bool) (c d : Checked (List Value))
      → IsOperand (λ r. value_of old r bits) left.cells.items left.single c
      → IsOperand (λ r. value_of old r bits) right.cells.items right.single d
      → Reads (λ r. value_of new r bits) t.cells.items (binary op c d)
  pub single : t.single ≡ true → (c d : Checked (List Value)) → IsSingle (binary op c d)

-- what it takes of the store
abbrev pub SpendsFor : Table → Table → Store → Store → Type 0
SpendsFor left right old new = Spends (operator_allowance (length left.cells.items)
    (length right.cells.items) (2 ^ levels_of old)) old new
