use Rattle.std.proofs.Common.{ℕ, ◌<◌, [], get_or}
use Rattle.kripke_model.specs.Step.{IsState}
use Rattle.delay_bounds.proofs.ways.are_states.Given as goal

-- those so far are states
abbrev pub invariant-loop-i : goal.invariant-loop-i
invariant-loop-i l = (k : ℕ) → k < l.i → IsState l.model (get_or l.way k [])
