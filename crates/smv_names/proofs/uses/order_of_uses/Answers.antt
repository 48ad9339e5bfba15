use Rattle.smv_names.proofs.UseLemmas.{uses_ordered}
use Rattle.smv_names.proofs.NumberLemmas.{if_ok_by}
use Rattle.smv_names.proofs.uses.order_of_uses.Goals as goal

pub order_of-requires : goal.order_of-requires
order_of-requires c = c.in_ok-graph.ensures.graph c.requires.0 c.requires.1

pub returns : goal.returns
returns c p are = if_ok_by c.order_of.result
    (λ o orders. uses_ordered p c.args.instances.now c.in_ok-graph.graph.firsts.items c.in_ok-graph.graph.targets.items o.order.items o.circular.items are.started.instances_are (c.in_ok-graph.ensures.uses p are) orders)
    c.order_of.ensures
