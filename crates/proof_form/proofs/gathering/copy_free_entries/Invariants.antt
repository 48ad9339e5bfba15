use Rattle.std.proofs.Common.{take, Ok, map}
use Rattle.proof_form.specs.Copying.{AreCopied}
use Rattle.proof_form.specs.Form.{entries_sets}
use Rattle.proof_form.proofs.gathering.copy_free_entries.Given as goal

-- the sets before are copied
abbrev pub invariant-loop-free : goal.invariant-loop-free
invariant-loop-free g l =
    AreCopied {T = Unit {0}} (g.S.StateSets.seen l.initial.sets) (g.S.StateSets.seen l.sets) (entries_sets (map (λ e. e.entry) (take l.free-index l.entries))) l.initial.copies.items l.copies.items (Ok tt)
