use Rattle.std.proofs.Common.{ℕ, ◌<◌, get_or}
use Rattle.kripke_model.specs.declared.expressions.Value.{Value}
use Rattle.trace_files.specs.Small.{IsSmall}
use Rattle.trace_files.proofs.small.look_at_all.Given as goal

-- the values so far are small
abbrev pub invariant-loop-value : goal.invariant-loop-value
invariant-loop-value l = (k : ℕ) → k < l.value-index → (d : Value) → IsSmall (get_or l.values k d)
