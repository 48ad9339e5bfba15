use Rattle.std.proofs.Common.{◌≡◌, ◌++◌, ◌+◌, ◌-◌}
use Rattle.smv_rings.specs.Rings.{ring_text}
use Rattle.smv_rings.proofs.Lines.{lines_left}
use Rattle.smv_rings.proofs.gen_text.Given as goal

-- what is there, and the lines that are left
abbrev pub invariant-loop-before : goal.invariant-loop-before
invariant-loop-before l = ring_text l.n ≡ l.text.items ++ lines_left l.n (l.before + 1) (l.n - l.before)
