use Rattle.std.proofs.Common.{◌≡◌, ◌++◌, drop}
use Rattle.text_lines.specs.WholeLines.{join_lines}
use Rattle.trace_files.specs.Trace.{value_lines}
use Rattle.trace_files.proofs.writing.push_values.Given as goal

-- what is there, and the lines of the values that are left
abbrev pub invariant-loop-x : goal.invariant-loop-x
invariant-loop-x l = l.text ++ join_lines (value_lines l.model l.x (drop l.x l.values)) ≡ l.initial.text ++ join_lines (value_lines l.model 0 l.values)
