use Rattle.std.proofs.Common.{◌+◌, ◌*◌, length, ap, ◌∙◌, arith, rules}
use Rattle.bdd_nodes.specs.Store.{value_of}
use Rattle.value_tables.specs.Tables.{judged}
use Rattle.value_tables.specs.Orders.{numbers, comparison}
use Rattle.value_tables.proofs.WeightLemmas.{Spends-more}
use Rattle.value_tables.proofs.RegionLemmas.{AreCells-grows, keeps_join, Spends-then}
use Rattle.value_tables.proofs.BinaryLemmas.{reads_grows, reads_as}
use Rattle.value_tables.proofs.StepLemmas.{if_ok}
use Rattle.value_tables.proofs.OrderLemmas.{comparison_judged}
use Rattle.value_tables.proofs.operators.ordered.Goals as goal

pub settled-requires-clause-left : goal.settled-requires-clause-left
settled-requires-clause-left g c = AreCells-grows c.args.engine.now.store c.related.new.engine.store c.related.ensures.call.keeps.engine.grows c.args.left.now c.requires.left

pub settled-requires-clause-right : goal.settled-requires-clause-right
settled-requires-clause-right g c = AreCells-grows c.args.engine.now.store c.related.new.engine.store c.related.ensures.call.keeps.engine.grows c.args.right.now c.requires.right

pub returns-clause-reads : goal.returns-clause-reads
returns-clause-reads g c =
    let s = c.args.engine.now.store in
    let m = c.related.new.engine.store in
    let grows = c.related.ensures.call.keeps.engine.grows in
    let left = c.args.left.now in
    let right = c.args.right.now in
    if_ok c.settled.result c.settled.ensures.reads (λ t reads bits a b x y.
    reads_as _ _ (judged (numbers a) (numbers b) (value_of m c.in_ok-hit.hit bits)) (comparison c.args.op a b)
    (ap (judged (numbers a) (numbers b)) (c.in_ok-hit.ensures.region.value bits) ∙ comparison_judged (λ q. value_of s q bits) c.args.op left right a b x y)
    (reads bits (numbers a) (numbers b) (reads_grows s m grows left c.requires.left.has bits (numbers a) x) (reads_grows s m grows right c.requires.right.has bits (numbers b) y)))

pub returns-clause-call : goal.returns-clause-call
returns-clause-call g c = record { keeps = keeps_join c.related.ensures.call.keeps c.settled.ensures.call.keeps; held = search rules }

pub returns-in_err-hit-clause-spends : goal.returns-in_err-hit-clause-spends
returns-in_err-hit-clause-spends g c =
    let l = length c.args.left.now in
    let r = length c.args.right.now in
    Spends-more c.args.engine.now.store c.related.new.engine.store (5 * l + 5 * r) (8 * l + 8 * r + 8) (omega arith) c.related.ensures.spends

pub returns-clause-spends : goal.returns-clause-spends
returns-clause-spends g c =
    let l = length c.args.left.now in
    let r = length c.args.right.now in
    Spends-then c.args.engine.now.store c.related.new.engine.store c.settled.new.engine.store (5 * l + 5 * r) (3 * l + 3 * r + 8) _ c.related.ensures.call.keeps.engine.grows.levels
    (omega arith) c.related.ensures.spends c.settled.ensures.spends
