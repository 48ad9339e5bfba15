use Rattle.std.proofs.Common.{◌≡◌, take}
use Rattle.proof_form.specs.Form.{entries_sets}
use Rattle.proof_form.specs.Filling.{AreTaken, entries_form}
use Rattle.proof_form.proofs.numbering.number_entries.Given as goal

-- the elements before have their numbers
abbrev pub invariant-loop-entry : goal.invariant-loop-entry
invariant-loop-entry l =
    (entries_form l.filled.items ≡ entries_form (take l.entry-index l.entries)) × AreTaken l.numbers l.initial.next l.next (entries_sets l.filled.items)
