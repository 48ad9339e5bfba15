use Rattle.std.proofs.Common.{[], ◌∷◌, sym, ◌∙◌, ap}
use Rattle.proof_form.specs.Form.{layer_sets}
use Rattle.proof_form.proofs.Pieces.{layers-append}
use Rattle.block_proofs.proofs.Marked.{marked_more}
use Rattle.block_proofs.proofs.marking.mark_layers.Goals as goal

pub loop-layer-preserved : goal.loop-layer-preserved
loop-layer-preserved c =
    marked_more layer_sets layers-append c.args.layers.now c.loop-layer.layer-index c.layer-item.result (c.layer.inside.set ∷ []) c.loop-layer-test.true
    (ap (λ l. l.set ∷ []) (sym c.layer-item.is ∙ sym c.layer.view_is)) c.loop-layer.invariant c.mark.ensures
