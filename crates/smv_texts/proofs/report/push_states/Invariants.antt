use Rattle.std.proofs.Common.{◌≡◌, ◌+◌, ◌++◌, drop}
use Rattle.smv_texts.specs.Report.{numbered, state_lines}
use Rattle.smv_texts.proofs.report.push_states.Given as goal

-- what is there, and the lines of the states that are left
abbrev pub invariant-loop-place : goal.invariant-loop-place
invariant-loop-place l =
    l.text ++ numbered (state_lines l.model) (l.first + l.place) (drop l.place l.states) ≡ l.initial.text ++ numbered (state_lines l.model) l.first l.states
