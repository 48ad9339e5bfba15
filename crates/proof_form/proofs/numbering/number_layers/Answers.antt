use Rattle.std.proofs.Common.{◌≡◌, ◌+◌, [], ◌∷◌, take, get_or, refl, sym, ◌∙◌, ap, subst, arith}
use Rattle.proof_form.specs.Form.{layer_sets, map_layer}
use Rattle.proof_form.specs.Filling.{AreTaken, blank, layers_form}
use Rattle.proof_form.proofs.Pieces.{layers-append}
use Rattle.proof_form.proofs.Taken.{layers_size, room_left, form_more, filled_more}
use Rattle.proof_form.proofs.numbering.number_layers.Goals as goal

pub take_number-set-requires : goal.take_number-set-requires
take_number-set-requires c =
    let v = c.loop-layer.invariant in
    let r = room_left layer_sets layers-append c.args.layers.now c.loop-layer.layer-index c.layer-item.result ((get_or c.args.layers.now c.loop-layer.layer-index c.layer-item.result).set ∷ []) c.args.numbers.now (layer_sets c.loop-layer.filled.items) _ _ c.loop-layer-test.true refl c.requires v.1
    (layers_size (take c.loop-layer.layer-index c.args.layers.now) c.loop-layer.filled.items v.0) in
    omega (arith, r)

pub loop-layer-preserved : goal.loop-layer-preserved
loop-layer-preserved c =
    let v = c.loop-layer.invariant in
    subst (λ ls. (layers_form ls ≡ layers_form (take (c.loop-layer.layer-index + 1) c.args.layers.now)) × AreTaken c.args.numbers.now c.args.next.now c.take_number-set.new.next (layer_sets ls)) (sym c.in_ok-push.ensures.items) (
      form_more (map_layer blank) (map_layer blank) c.loop-layer.filled.items (record { avoid = c.layer.inside.avoid; set = c.take_number-set.result }) c.args.layers.now c.loop-layer.layer-index c.layer-item.result c.loop-layer-test.true v.0 (ap (map_layer blank) (c.layer.view_is ∙ c.layer-item.is)),
      filled_more layer_sets layers-append c.loop-layer.filled.items (record { avoid = c.layer.inside.avoid; set = c.take_number-set.result }) (c.take_number-set.result ∷ []) v.1 refl c.take_number-set.ensures,
    )
