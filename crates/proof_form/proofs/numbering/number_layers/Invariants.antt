use Rattle.std.proofs.Common.{◌≡◌, take}
use Rattle.proof_form.specs.Form.{layer_sets}
use Rattle.proof_form.specs.Filling.{AreTaken, layers_form}
use Rattle.proof_form.proofs.numbering.number_layers.Given as goal

-- the elements before have their numbers
abbrev pub invariant-loop-layer : goal.invariant-loop-layer
invariant-loop-layer l =
    (layers_form l.filled.items ≡ layers_form (take l.layer-index l.layers)) × AreTaken l.numbers l.initial.next l.next (layer_sets l.filled.items)
