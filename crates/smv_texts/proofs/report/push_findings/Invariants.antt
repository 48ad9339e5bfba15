use Rattle.std.proofs.Common.{◌≡◌, ◌++◌, drop, map}
use Rattle.smv_texts.specs.Outcomes.{finding_of}
use Rattle.smv_texts.specs.Report.{numbered, finding_lines}
use Rattle.smv_texts.proofs.report.push_findings.Given as goal

-- what is there, and the lines of the findings that are left
abbrev pub invariant-loop-place : goal.invariant-loop-place
invariant-loop-place l =
    l.text ++ numbered (finding_lines l.model) l.place (map finding_of (drop l.place l.findings))
    ≡ l.initial.text ++ numbered (finding_lines l.model) 0 (map finding_of l.findings)
