use Rattle.std.proofs.Common.{take, Ok}
use Rattle.proof_form.specs.Copying.{AreCopied}
use Rattle.std.specs.Prelude.{flat_map}
use Rattle.proof_form.specs.Filling.{lists_of}
use Rattle.proof_form.proofs.gathering.copy_lists.Given as goal

-- the sets before are copied
abbrev pub invariant-loop-list : goal.invariant-loop-list
invariant-loop-list g l =
    AreCopied {T = Unit {0}} (g.S.StateSets.seen l.initial.sets) (g.S.StateSets.seen l.sets) (flat_map (λ sets. sets) (lists_of (take l.list-index l.lists))) l.initial.copies.items l.copies.items (Ok tt)
