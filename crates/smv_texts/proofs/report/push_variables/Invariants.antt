use Rattle.std.proofs.Common.{◌≡◌, ◌++◌, drop}
use Rattle.smv_texts.specs.Report.{numbered, variable_line}
use Rattle.smv_texts.proofs.report.push_variables.Given as goal

-- what is there, and the lines of the variables that are left
abbrev pub invariant-loop-x : goal.invariant-loop-x
invariant-loop-x l =
    l.text ++ numbered (variable_line l.model l.state) l.x (drop l.x l.vars) ≡ l.initial.text ++ numbered (variable_line l.model l.state) 0 l.vars
