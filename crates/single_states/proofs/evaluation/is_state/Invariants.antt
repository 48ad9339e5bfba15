use Rattle.std.proofs.Common.{ℕ, ◌<◌, get_or, Contains}
use Rattle.kripke_model.specs.System.{Variable, value_in}
use Rattle.single_states.proofs.evaluation.is_state.Given as goal

-- the variables before i have values of their types
abbrev pub invariant-loop-i : goal.invariant-loop-i
invariant-loop-i l = (k : ℕ) → k < l.i → (v : Variable) → Contains (get_or l.model.vars k v).values (value_in l.s k)
