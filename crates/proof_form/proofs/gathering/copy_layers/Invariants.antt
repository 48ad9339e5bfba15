use Rattle.std.proofs.Common.{take, Ok}
use Rattle.proof_form.specs.Copying.{AreCopied}
use Rattle.proof_form.specs.Form.{layer_sets}
use Rattle.proof_form.proofs.gathering.copy_layers.Given as goal

-- the sets before are copied
abbrev pub invariant-loop-layer : goal.invariant-loop-layer
invariant-loop-layer g l =
    AreCopied {T = Unit {0}} (g.S.StateSets.seen l.initial.sets) (g.S.StateSets.seen l.sets) (layer_sets (take l.layer-index l.layers)) l.initial.copies.items l.copies.items (Ok tt)
