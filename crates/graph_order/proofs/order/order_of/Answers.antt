use Rattle.std.proofs.Common.{arith}
use Rattle.graph_order.proofs.StepLemmas.{ordered_all}
use Rattle.graph_order.proofs.order.order_of.Goals as goal

pub returns : goal.returns
returns c =
    let i = c.loop-root.invariant in
    ordered_all c.args.graph.now c.loop-root.search i.keeps i.empty (λ v h. i.seen v (omega (arith, h, i.count, c.loop-root-test.false)))
