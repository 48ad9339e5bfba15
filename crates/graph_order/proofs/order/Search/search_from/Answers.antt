use Rattle.std.proofs.Common.{arith}
use Rattle.graph_order.proofs.StepLemmas.{first_at, enters_at, entered_keeps, entered_seen, entered_now}
use Rattle.graph_order.proofs.order.Search.search_from.Goals as goal

pub loop-top-init : goal.loop-top-init
loop-top-init c =
    let s = c.args.self.now in
    let g = c.args.graph.now in
    let good = c.requires.good in
    let k = c.requires.keeps in
    let n = c.enter.new.self in
    let v = c.args.root in
    let enters = enters_at g v c.index.result.now s n (first_at g good v c.index.result.now c.requires.is_node c.index.ensures) c.in_ok-enter.ensures in
    record {
      keeps = entered_keeps g good s n v k enters c.requires.unseen c.requires.is_node (λ i h. absurd (omega (arith, h, k.path.empty c.requires.none)));
      seen = entered_seen g good s n v k enters c.requires.unseen c.requires.is_node (λ i h. absurd (omega (arith, h, k.path.empty c.requires.none)));
      root = entered_now g good s n v k enters c.requires.unseen c.requires.is_node (λ i h. absurd (omega (arith, h, k.path.empty c.requires.none)));
    }
