use Rattle.std.proofs.Common.{ℕ, ◌<◌, ◌+◌}
use Rattle.trace_check.specs.Judged.{MeetsOnCycle}
use Rattle.trace_check.proofs.visits.first_unmet.Given as goal

-- the constraints so far are met
abbrev pub invariant-loop-place : goal.invariant-loop-place
invariant-loop-place g l = (k : ℕ) → k < l.place → MeetsOnCycle l.model l.lasso (k + 1)
