use Rattle.std.proofs.Common.{◌≡◌, ◌<◌, ◌≤◌, arith, length, ◌∙◌, ap, get_or}
use Rattle.graph_order.specs.Searches.{node}
use Rattle.graph_order.proofs.StepLemmas.{frame_node, ranks_one_at}
use Rattle.graph_order.proofs.order.Search.rank_from.Goals as goal

pub loop-place-preserved : goal.loop-place-preserved
loop-place-preserved c =
    let old = c.args.self.now in
    let s = c.loop-place.self in
    let i = c.loop-place.place in
    let inv = c.loop-place.invariant in
    let to : i < length old.stack.items = omega (arith, ap (λ z. length z) inv.stack) in
    let from : c.args.bottom ≤ i = omega arith in
    let is_v : c.index.result.now.node ≡ node old.stack.items i = frame_node old.stack.items i c.index.result.now to (c.index.ensures ∙ ap (λ z. get_or z i c.index.result.now) inv.stack) in
    let is_n : c.len.result ≡ length s.order.items = omega arith in
    record {
      ranks = ranks_one_at c.args.bottom i c.args.circular old.stack.items old.marks.items s.marks.items old.order.items s.order.items c.push.new.self.items old.circular.items s.circular.items
          c.index.result.now.node c.len.result inv.ranks from to is_v is_n c.in_ok-push.ensures.items (c.requires.marked i to) (c.requires.flagged i to) c.requires.distinct;
      stack = inv.stack;
      path = inv.path;
      bounds = inv.bounds;
    }
