use Rattle.std.proofs.Common.{◌≡◌, ◌++◌, drop}
use Rattle.std.specs.Prelude.{flat_map}
use Rattle.proof_text.specs.Lines.{entry_lines, text_of}
use Rattle.proof_text.proofs.entry_lines.push_entries.Given as goal

-- what is there, and the lines of the entries that are left
abbrev pub invariant-loop-entry : goal.invariant-loop-entry
invariant-loop-entry l = l.text ++ text_of (flat_map entry_lines (drop l.entry-index l.entries)) ≡ l.initial.text ++ text_of (flat_map entry_lines l.entries)
