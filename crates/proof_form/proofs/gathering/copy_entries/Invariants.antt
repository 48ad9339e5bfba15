use Rattle.std.proofs.Common.{take, Ok}
use Rattle.proof_form.specs.Copying.{AreCopied}
use Rattle.proof_form.specs.Form.{entries_sets}
use Rattle.proof_form.proofs.gathering.copy_entries.Given as goal

-- the sets before are copied
abbrev pub invariant-loop-entry : goal.invariant-loop-entry
invariant-loop-entry g l =
    AreCopied {T = Unit {0}} (g.S.StateSets.seen l.initial.sets) (g.S.StateSets.seen l.sets) (entries_sets (take l.entry-index l.entries)) l.initial.copies.items l.copies.items (Ok tt)
