use Rattle.std.proofs.Common.{◌≡◌, ℕ, ◌<◌, ◌≤◌, get_or}
use Rattle.graph_order.proofs.order.uses_itself.Given as goal

abbrev pub invariant-loop-place : goal.invariant-loop-place
invariant-loop-place l = (k : ℕ) → get_or l.graph.firsts.items l.node 0 ≤ k → k < l.place → get_or l.graph.targets.items k 0 ≡ l.node → ⊥
