use Rattle.std.proofs.Common.{◌≡◌, ◌++◌, drop, map}
use Rattle.proof_text.specs.Lines.{set_line, text_of}
use Rattle.proof_text.proofs.set_lines.push_sets.Given as goal

-- what is there, and the lines of the sets that are left
abbrev pub invariant-loop-set : goal.invariant-loop-set
invariant-loop-set l = l.text ++ text_of (map set_line (drop l.set-index l.sets)) ≡ l.initial.text ++ text_of (map set_line l.sets)
