use Rattle.std.proofs.Common.{take}
use Rattle.std.specs.Prelude.{flat_map}
use Rattle.proof_form.specs.Filling.{lists_of}
use Rattle.block_proofs.specs.Marks.{AreMarked}
use Rattle.block_proofs.proofs.marking.mark_lists.Given as goal

-- those before are marked
abbrev pub invariant-loop-list : goal.invariant-loop-list
invariant-loop-list l = AreMarked (flat_map (λ sets. sets) (lists_of (take l.list-index l.lists))) l.initial.marks l.marks
