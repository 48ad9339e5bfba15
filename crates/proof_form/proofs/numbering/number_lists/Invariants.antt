use Rattle.std.proofs.Common.{◌≡◌, take}
use Rattle.std.specs.Prelude.{flat_map}
use Rattle.proof_form.specs.Filling.{AreTaken, lists_form, lists_of}
use Rattle.proof_form.proofs.numbering.number_lists.Given as goal

-- the elements before have their numbers
abbrev pub invariant-loop-list : goal.invariant-loop-list
invariant-loop-list l =
    (lists_form (lists_of l.filled.items) ≡ lists_form (lists_of (take l.list-index l.lists))) × AreTaken l.numbers l.initial.next l.next (flat_map (λ sets. sets) (lists_of l.filled.items))
