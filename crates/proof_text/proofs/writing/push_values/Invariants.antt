use Rattle.std.proofs.Common.{◌≡◌, ◌++◌, drop}
use Rattle.proof_text.specs.Lines.{value_words}
use Rattle.proof_text.specs.SpacedText.{spaced}
use Rattle.proof_text.proofs.writing.push_values.Given as goal

-- what is there, and the values that are left
abbrev pub invariant-loop-x : goal.invariant-loop-x
invariant-loop-x l = l.text ++ spaced (value_words l.model l.x (drop l.x l.values)) ≡ l.initial.text ++ spaced (value_words l.model 0 l.values)
