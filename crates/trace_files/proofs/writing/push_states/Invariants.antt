use Rattle.std.proofs.Common.{◌≡◌, ◌+◌, ◌++◌, drop}
use Rattle.text_lines.specs.WholeLines.{join_lines}
use Rattle.trace_files.specs.Trace.{states_lines}
use Rattle.trace_files.proofs.writing.push_states.Given as goal

-- what is there, and the lines of the states that are left
abbrev pub invariant-loop-i : goal.invariant-loop-i
invariant-loop-i l = l.text ++ join_lines (states_lines l.model (l.k + l.i) (drop l.i l.states)) ≡ l.initial.text ++ join_lines (states_lines l.model l.k l.states)
