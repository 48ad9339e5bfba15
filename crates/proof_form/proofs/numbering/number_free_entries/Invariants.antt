use Rattle.std.proofs.Common.{◌≡◌, take, map}
use Rattle.proof_form.specs.Form.{entries_sets}
use Rattle.proof_form.specs.Filling.{AreTaken, free_entries_form}
use Rattle.proof_form.proofs.numbering.number_free_entries.Given as goal

-- the elements before have their numbers
abbrev pub invariant-loop-free : goal.invariant-loop-free
invariant-loop-free l =
    (free_entries_form l.filled.items ≡ free_entries_form (take l.free-index l.entries)) × AreTaken l.numbers l.initial.next l.next (entries_sets (map (λ e. e.entry) l.filled.items))
