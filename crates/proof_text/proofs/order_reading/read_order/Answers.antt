use Rattle.text_lines.proofs.FoundLine.{no_memory, taken_room}
use Rattle.proof_text.proofs.FoundHeader.{order_ends, order_judged}
use Rattle.proof_text.proofs.order_reading.read_order.Goals as goal

pub returns-in_default : goal.returns-in_default
returns-in_default c = order_ends c.args.model.now c.in_default.ensures

pub returns-in-Ok : goal.returns-in-Ok
returns-in-Ok c = rw c.ok_or.ensures.value (order_judged c.args.model.now c.in-Some.ensures c.line-line.ensures _ c.in-Ok.ensures)

pub returns-in-Err : goal.returns-in-Err
returns-in-Err c = λ levels. no_memory (taken_room c.in-Some.ensures)
