use Rattle.std.proofs.Common.{length}
use Rattle.value_tables.proofs.orders.+pass_marks.Given as goal

abbrev pub decreases-pass_marks : goal.decreases-pass_marks
decreases-pass_marks g l = length l.marks.now
