use Rattle.std.proofs.Common.{◌≡◌, ◌++◌, drop}
use Rattle.smv_texts.specs.Reasons.{given_text}
use Rattle.smv_texts.specs.Report.{numbered}
use Rattle.smv_texts.proofs.item_fault.push_values.Given as goal

-- what is there, and the values of the variables that are left
abbrev pub invariant-loop-x : goal.invariant-loop-x
invariant-loop-x l =
    l.text ++ numbered (given_text l.front l.behind l.model l.state) l.x (drop l.x l.vars) ≡ l.initial.text ++ numbered (given_text l.front l.behind l.model l.state) 0 l.vars
