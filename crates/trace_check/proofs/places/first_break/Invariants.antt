use Rattle.std.proofs.Common.{ℕ, ◌<◌}
use Rattle.trace_check.specs.Judged.{StepsAt}
use Rattle.trace_check.proofs.places.first_break.Given as goal

-- the states so far step to the next ones
abbrev pub invariant-loop-n : goal.invariant-loop-n
invariant-loop-n l = (k : ℕ) → k < l.n → StepsAt l.model l.lasso k
