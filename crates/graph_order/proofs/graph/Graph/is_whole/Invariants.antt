use Rattle.std.proofs.Common.{ℕ, ◌+◌, ◌<◌, length, get_or}
use Rattle.graph_order.proofs.graph.Graph.is_whole.Given as goal

abbrev pub invariant-loop-target : goal.invariant-loop-target
invariant-loop-target l = (k : ℕ) → k < l.target-index → get_or l.self.targets.items k 0 + 1 < length l.self.firsts.items
