use Rattle.value_tables.proofs.OrderLemmas.{marks_more}
use Rattle.value_tables.proofs.orders.add_marks.Goals as goal

pub loop-cell-preserved : goal.loop-cell-preserved
loop-cell-preserved c =
    marks_more c.args.late c.args.cells.now c.loop-cell.cell-index c.cell-item.result c.loop-cell-test.true c.cell-item.is c.args.marks.now.items c.loop-cell.marks.items c.add_mark.new.marks.items c.loop-cell.invariant c.in_ok-add_mark.ensures
