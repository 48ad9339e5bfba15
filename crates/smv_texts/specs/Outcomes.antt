-- What the code finds, as the definitions have it.
use Rattle.smv_texts.specs.Report as report
use Rattle.smv_texts.specs.declared.outcome.Finding.{Finding}
use Rattle.smv_texts.specs.declared.outcome.Outcome.{Outcome}
use Rattle.smv_texts.specs.declared.outcome.Outcome.TheVariants.{True, False, Unknown}

abbrev pub outcome_of : Outcome → report.Outcome
outcome_of True = report.True
outcome_of (False s path) = report.False s path
outcome_of (Unknown limit) = report.Unknown limit

abbrev pub finding_of : Finding → report.Finding
finding_of finding = record { outcome = outcome_of finding.outcome; left_out = finding.left_out }
