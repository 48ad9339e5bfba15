use Rattle.std.proofs.Common.{◌≡◌, false}
use Rattle.graph_order.specs.Searches.{mark, Keeps, is_unseen, KeepsSeen, work_left}
use Rattle.graph_order.proofs.order.Search.search_from.Given as goal

abbrev pub invariant-loop-top : goal.invariant-loop-top
invariant-loop-top l = record {
  keeps : Keeps l.graph l.self;
  seen : KeepsSeen l.fn.self l.self;
  root : is_unseen (mark l.self.marks.items l.root) ≡ false;
}

abbrev pub decreases-loop-top : goal.decreases-loop-top
decreases-loop-top l = work_left l.graph l.self
