use Rattle.std.proofs.Common.{take}
use Rattle.proof_form.specs.Form.{layer_sets}
use Rattle.block_proofs.specs.Marks.{AreMarked}
use Rattle.block_proofs.proofs.marking.mark_layers.Given as goal

-- those before are marked
abbrev pub invariant-loop-layer : goal.invariant-loop-layer
invariant-loop-layer l = AreMarked (layer_sets (take l.layer-index l.layers)) l.initial.marks l.marks
