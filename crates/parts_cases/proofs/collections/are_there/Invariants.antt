use Rattle.std.proofs.Common.{◌<◌, ℕ}
use Rattle.std.specs.Prelude.{slice_index}
use Rattle.bdd_nodes.specs.Store.{Has}
use Rattle.parts_cases.proofs.collections.are_there.Given as goal

abbrev pub invariant-loop-r : goal.invariant-loop-r
invariant-loop-r l = (k : ℕ) → k < l.r-index → Has l.store (slice_index l.refs k)
