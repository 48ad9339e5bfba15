use Rattle.std.proofs.Common.{[], Ok}
use Rattle.proof_text.specs.FileParts.{FitsNode, one_node}
use Rattle.proof_text.specs.Lines.{line_text}
use Rattle.proof_text.specs.Spells.{IsGoodLine}
use Rattle.text_lines.specs.Formats.{FitMany, lines_of_many}
use Rattle.text_lines.specs.Found.{IsFound}
use Rattle.proof_text.proofs.node_reading.read_nodes.Given as goal

-- as many nodes were read, and stand in the table
abbrev pub invariant-loop-i : goal.invariant-loop-i
invariant-loop-i l = IsFound line_text (IsGoodLine l.levels) (FitMany FitsNode l._i []) (lines_of_many one_node []) l.initial.cursor (Ok l.table.keys) l.cursor
