use Rattle.std.proofs.Common.{◌≡◌, ◌++◌, drop, map}
use Rattle.proof_text.specs.Lines.{text_of}
use Rattle.command_replies.specs.SeenRows.{seen_row}
use Rattle.command_replies.specs.Strong.{row_line}
use Rattle.command_replies.proofs.certificate_lines.push_each.Given as goal

-- what is there, and the lines of the rows that are left
abbrev pub invariant-loop-row : goal.invariant-loop-row
invariant-loop-row l =
    l.text ++ text_of (map row_line (map seen_row (drop l.row-index l.rows)))
    ≡ l.initial.text ++ text_of (map row_line (map seen_row l.rows))
