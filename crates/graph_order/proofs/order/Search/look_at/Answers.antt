use Rattle.std.proofs.Common.{arith, ◌<◌}
use Rattle.std.proofs.lemmas.Result.{on_ok_weaker}
use Rattle.graph_order.specs.declared.order.Mark.{Mark}
use Rattle.graph_order.specs.Searches.{nodes}
use Rattle.graph_order.proofs.StepLemmas.{mark_at, first_at, enters_at, target_is_node, looked_entered, looked_joined, place_reached}
use Rattle.graph_order.proofs.order.Search.look_at.Goals as goal

pub returns-in-Unseen : goal.returns-in-Unseen
returns-in-Unseen c =
    let s = c.args.self.now in
    let g = c.args.graph.now in
    let k = c.requires.keeps in
    let w = c.args.target in
    let is_node : w < nodes g = target_is_node g c.requires.good s w k c.requires.some c.requires.edge in
    let unseen = mark_at s.marks.items w c.index.result.now Mark.Unseen (omega (arith, is_node, k.stack.size)) c.index.ensures c.in-Unseen.is in
    on_ok_weaker c.enter.result (λ enters. looked_entered g c.requires.good s w k c.requires.some c.requires.edge c.enter.new.self
    (enters_at g w c.index-in-Unseen.result.now s c.enter.new.self (first_at g c.requires.good w c.index-in-Unseen.result.now is_node c.index-in-Unseen.ensures) enters) unseen) c.enter.ensures

pub returns-in-Stacked : goal.returns-in-Stacked
returns-in-Stacked c =
    let s = c.args.self.now in
    let g = c.args.graph.now in
    let k = c.requires.keeps in
    let w = c.args.target in
    let is_node : w < nodes g = target_is_node g c.requires.good s w k c.requires.some c.requires.edge in
    let stacked = mark_at s.marks.items w c.index.result.now (Mark.Stacked c.in-Stacked.place) (omega (arith, is_node, k.stack.size)) c.index.ensures c.in-Stacked.is in
    let joins = c.join.ensures.keeps g k.stack k.path c.requires.some (place_reached g c.requires.good s w k c.requires.some c.requires.edge c.in-Stacked.place stacked) in
    looked_joined g c.requires.good s w k c.requires.some c.requires.edge c.join.new.self c.in-Stacked.place stacked c.join.ensures.joined c.join.ensures.others joins
