use Rattle.std.proofs.Common.{◌∙◌, length}
use Rattle.proof_text.proofs.DeclaredOrder.{declared_is}
use Rattle.work_bench.proofs.made_proofs.measure_over.Goals as goal

pub measure-requires-clause-order : goal.measure-requires-clause-order
measure-requires-clause-order c =
    c.in-Ok.ensures.order ∙ declared_is (length c.args.model.now.vars)
