-- What the code finds, as the definitions have it.
use Rattle.std.specs.Prelude.{◌≡◌, ℕ, List, length, map, count_by, All, Option}
use Rattle.kripke_model.specs.Ctl.{Ctl}
use Rattle.kripke_model.specs.System.{System, Condition}
use Rattle.smv_texts.specs.Evidence.{IsMet}
use Rattle.smv_texts.specs.Outcomes.{finding_of}
use Rattle.smv_texts.specs.Replies.{saved_of}
use Rattle.smv_texts.specs.Report.{Finding, is_unknown}
use Rattle.spec_verdicts.specs.Checked.{SavesProofs}
use Rattle.spec_verdicts.specs.Verdicts.{IsVerdict, ShowsState, EachFinding}
use Rattle.spec_verdicts.specs.declared.findings.Findings.{Findings}

-- what is found of a specification
abbrev pub IsFoundOf : System → ℕ → Ctl → Finding → Type 0
IsFoundOf m limit f finding = IsVerdict m limit f finding.outcome × ShowsState m f finding.outcome

-- what is found of each of these specifications, the full stores that show it, and the proofs of it
pub record AreFound (m : System) (limit : ℕ) (proofs : Option (List ℕ)) (cs : List Condition)
    (found : Findings) : Type 0 where
  pub each : EachFinding (IsFoundOf m limit) cs (map finding_of found.findings.items)
  pub held : All (IsMet m limit) found.held.items
  pub count : length found.held.items ≡ count_by is_unknown (map finding_of found.findings.items)
  pub saves : SavesProofs m proofs (map finding_of found.findings.items) (saved_of found.saves)
