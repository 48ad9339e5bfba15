use Rattle.std.proofs.Common.{take, Ok}
use Rattle.proof_form.specs.Copying.{AreCopied}
use Rattle.proof_form.proofs.gathering.copy_list.Given as goal

-- the sets before are copied
abbrev pub invariant-loop-set : goal.invariant-loop-set
invariant-loop-set g l =
    AreCopied {T = Unit {0}} (g.S.StateSets.seen l.initial.sets) (g.S.StateSets.seen l.sets) (take l.set-index l.list) l.initial.copies.items l.copies.items (Ok tt)
