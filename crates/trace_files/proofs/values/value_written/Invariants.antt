use Rattle.std.proofs.Common.{◌≡◌, ◌<◌, ℕ, get_or}
use Rattle.kripke_model.specs.declared.expressions.Value.{Value}
use Rattle.kripke_model.specs.Shown.{value_text}
use Rattle.trace_files.proofs.values.value_written.Given as goal

-- none of the values that were gone through is written so
abbrev pub invariant-loop-value : goal.invariant-loop-value
invariant-loop-value l = (k : ℕ) (d : Value) → k < l.value-index → l.word ≡ value_text l.model l.x (get_or l.values k d) → ⊥
