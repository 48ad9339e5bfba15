use Rattle.std.proofs.Common.{◌≡◌, ◌+◌, ◌++◌, drop, map}
use Rattle.command_replies.specs.SeenRows.{seen_row}
use Rattle.strong_export.specs.Numbered.{rows_with}
use Rattle.strong_export.proofs.numbering.rows_over.Given as goal

-- the rows before, and those that are left
abbrev pub invariant-loop-place : goal.invariant-loop-place
invariant-loop-place l =
    map seen_row l.rows.items ++ rows_with (drop l.place l.reasons) (drop (l.place + 1) l.roots)
    ≡ rows_with l.reasons (drop 1 l.roots)
