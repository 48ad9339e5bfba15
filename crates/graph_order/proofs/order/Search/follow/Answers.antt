use Rattle.std.proofs.Common.{refl, ◌-◌, ◌<◌, arith, length}
use Rattle.graph_order.proofs.StepLemmas.{frame_node, frame_next, edge_at, followed_at}
use Rattle.graph_order.proofs.order.Search.follow.Goals as goal

pub returns : goal.returns
returns c =
    let s = c.args.self.now in
    let g = c.args.graph.now in
    let k = c.requires.keeps in
    let high : c.args.top < length s.stack.items = omega (arith, c.requires.last, k.path.high (length s.path.items - 1) (omega (arith, c.requires.some))) in
    let is_n = frame_node s.stack.items c.args.top c.index-frame.result.now high c.index-frame.ensures in
    let is_x = frame_next s.stack.items c.args.top c.index-frame.result.now high c.index-frame.ensures in
    followed_at g c.requires.good s c.index.result.now k c.requires.some
    (edge_at g c.requires.good s k c.requires.some c.args.top c.index-frame.result.now.next c.index.result.now c.requires.last is_x c.requires.more c.index.ensures)
    c.look_at.new.self _ c.in_ok-look_at.ensures c.args.top c.index-frame.result.now.node c.index-frame.result.now.next c.requires.last is_n is_x
    refl refl refl refl refl refl
