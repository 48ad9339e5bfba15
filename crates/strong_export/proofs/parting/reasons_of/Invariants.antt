use Rattle.std.proofs.Common.{◌≡◌, ◌++◌, drop}
use Rattle.strong_export.specs.Parted.{row_reasons}
use Rattle.strong_export.proofs.parting.reasons_of.Given as goal

-- the reasons before, and those of the rows that are left
abbrev pub invariant-loop-row : goal.invariant-loop-row
invariant-loop-row l =
    l.reasons.items ++ row_reasons (drop l.row-index l.rows) ≡ row_reasons l.rows
