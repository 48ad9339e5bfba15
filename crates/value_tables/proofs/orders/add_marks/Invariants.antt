use Rattle.std.proofs.Common.{◌≡◌, ◌++◌, take}
use Rattle.value_tables.specs.Orders.{marks_in}
use Rattle.value_tables.proofs.orders.add_marks.Given as goal

abbrev pub invariant-loop-cell : goal.invariant-loop-cell
invariant-loop-cell l = l.marks.items ≡ l.initial.marks.items ++ marks_in l.late (take l.cell-index l.cells)
