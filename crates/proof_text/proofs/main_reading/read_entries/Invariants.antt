use Rattle.std.proofs.Common.{length}
use Rattle.kripke_model.specs.WellFormed.{ctl_of}
use Rattle.proof_text.proofs.FoundEntries.{EntriesRead}
use Rattle.proof_text.proofs.main_reading.read_entries.Given as goal

-- these entries are read
abbrev pub invariant-loop-alloc : goal.invariant-loop-alloc
invariant-loop-alloc l = EntriesRead l.model (ctl_of l.formula) l.most l.initial.cursor l.entries.items l.cursor

abbrev pub decreases-loop-alloc : goal.decreases-loop-alloc
decreases-loop-alloc l = length l.cursor.left
