use Rattle.std.specs.Prelude.{ℕ, ◌+◌, ◌-◌, ◌<◌, ◌≤◌, length, slice_index}
use Rattle.work_bench.proofs.diagrams.rises.Given as goal

abbrev pub decreases-loop-i : goal.decreases-loop-i
decreases-loop-i l = length l.levels - l.i

-- the pairs of neighbours below i rise
abbrev pub invariant-loop-i : goal.invariant-loop-i
invariant-loop-i l = (1 ≤ l.i) × ((k : ℕ) → k + 1 < l.i → slice_index l.levels k < slice_index l.levels (k + 1))
