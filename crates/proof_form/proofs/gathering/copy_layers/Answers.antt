use Rattle.std.proofs.Common.{[], ◌∷◌, sym, ◌∙◌, ap}
use Rattle.region_sets.proofs.Slots.{is_one_of-first}
use Rattle.proof_form.specs.Form.{layer_sets}
use Rattle.std.proofs.lemmas.Result.{err_from_is_err_and}
use Rattle.proof_form.proofs.Pieces.{layers-append, next_live, next_copied, next_refused}
use Rattle.proof_form.proofs.gathering.copy_layers.Goals as goal

pub copy_set-requires : goal.copy_set-requires
copy_set-requires g c =
    next_live layer_sets layers-append c.args.layers.now c.loop-layer.layer-index c.layer-item.result c.loop-layer-test.true (c.layer.inside.set ∷ []) (ap (λ l. l.set ∷ []) (sym c.layer-item.is ∙ sym c.layer.view_is)) c.requires c.loop-layer.invariant c.layer.inside.set.slot (is_one_of-first c.layer.inside.set.slot [])

pub returns-in_err-copy_set : goal.returns-in_err-copy_set
returns-in_err-copy_set g c =
    let p = err_from_is_err_and c.from_residual.result c.from_residual.ensures.1 in
    rw (p.1, p.2) (next_refused layer_sets layers-append c.args.layers.now c.loop-layer.layer-index c.layer-item.result c.loop-layer-test.true (c.layer.inside.set ∷ []) (ap (λ l. l.set ∷ []) (sym c.layer-item.is ∙ sym c.layer.view_is)) c.requires c.loop-layer.invariant
    c.in_err-copy_set.field-0.0 c.in_err-copy_set.ensures)

pub loop-layer-preserved : goal.loop-layer-preserved
loop-layer-preserved g c =
    next_copied layer_sets layers-append c.args.layers.now c.loop-layer.layer-index c.layer-item.result c.loop-layer-test.true (c.layer.inside.set ∷ []) (ap (λ l. l.set ∷ []) (sym c.layer-item.is ∙ sym c.layer.view_is)) c.requires c.loop-layer.invariant c.in_ok-copy_set.ensures
