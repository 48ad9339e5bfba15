use Rattle.std.proofs.Common.{◌≡◌, take}
use Rattle.proof_form.specs.Filling.{AreTaken, list_form}
use Rattle.proof_form.proofs.numbering.number_list.Given as goal

-- the elements before have their numbers
abbrev pub invariant-loop-set : goal.invariant-loop-set
invariant-loop-set l =
    (list_form l.filled.items ≡ list_form (take l._set-index l.list)) × AreTaken l.numbers l.initial.next l.next (l.filled.items)
