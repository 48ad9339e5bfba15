use Rattle.std.proofs.Common.{take, map}
use Rattle.proof_form.specs.Form.{entries_sets}
use Rattle.block_proofs.specs.Marks.{AreMarked}
use Rattle.block_proofs.proofs.marking.mark_free_entries.Given as goal

-- those before are marked
abbrev pub invariant-loop-free : goal.invariant-loop-free
invariant-loop-free l = AreMarked (entries_sets (map (λ e. e.entry) (take l.free-index l.entries))) l.initial.marks l.marks
