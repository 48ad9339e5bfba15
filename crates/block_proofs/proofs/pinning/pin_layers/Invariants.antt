use Rattle.std.proofs.Common.{◌≡◌, map, take}
use Rattle.proof_form.specs.Form.{map_layer}
use Rattle.block_proofs.specs.PinsFor.{pin_for}
use Rattle.block_proofs.proofs.pinning.pin_layers.Given as goal

-- those before have their pins
abbrev pub invariant-loop-layer : goal.invariant-loop-layer
invariant-loop-layer l = l.made.items ≡ map (map_layer (pin_for l.table)) (take l.layer-index l.layers)
