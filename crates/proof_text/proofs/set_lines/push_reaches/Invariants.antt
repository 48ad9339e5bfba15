use Rattle.std.proofs.Common.{◌≡◌, ◌+◌, ◌++◌, ℕ, drop, map}
use Rattle.std.specs.Global.{Vec}
use Rattle.proof_text.specs.Lines.{reach_lines, text_of}
use Rattle.proof_text.proofs.set_lines.push_reaches.Given as goal

-- what is there, and the lines of the constraints that are left
abbrev pub invariant-loop-k : goal.invariant-loop-k
invariant-loop-k l = l.text ++ text_of (reach_lines (l.k + 1) (map (λ (sets : Vec ℕ). sets.items) (drop l.k l.lists))) ≡ l.initial.text ++ text_of (reach_lines 1 (map (λ (sets : Vec ℕ). sets.items) l.lists))
