use Rattle.smv_static.proofs.WayLemmas.{cycle_flags}
use Rattle.smv_static.proofs.ways.on_cycles.Goals as goal

pub returns : goal.returns
returns c =
    let g = c.in_ok-graph.graph in
    let o = c.in_ok-order.order in
    cycle_flags c.args.base.now c.args.extra.now c.args.variables c.requires.base c.requires.extra g.firsts.items g.targets.items c.in_ok-graph.ensures.rows o.order.items o.circular.items c.in_ok-order.ensures
