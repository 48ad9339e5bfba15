use Rattle.std.proofs.Common.{take}
use Rattle.proof_form.specs.Form.{entries_sets}
use Rattle.block_proofs.specs.Marks.{AreMarked}
use Rattle.block_proofs.proofs.marking.mark_entries.Given as goal

-- those before are marked
abbrev pub invariant-loop-entry : goal.invariant-loop-entry
invariant-loop-entry l = AreMarked (entries_sets (take l.entry-index l.entries)) l.initial.marks l.marks
