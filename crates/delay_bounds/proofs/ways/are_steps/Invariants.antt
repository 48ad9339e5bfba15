use Rattle.std.proofs.Common.{ℕ, ◌+◌, ◌<◌, [], get_or}
use Rattle.kripke_model.specs.Step.{Step}
use Rattle.delay_bounds.proofs.ways.are_steps.Given as goal

-- those before place i step to the next one
abbrev pub invariant-loop-i : goal.invariant-loop-i
invariant-loop-i l = (k : ℕ) → k + 1 < l.i → Step l.model (get_or l.way k []) (get_or l.way (k + 1) [])
