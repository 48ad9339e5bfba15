use Rattle.std.proofs.Common.{[], ◌∷◌, ◌++◌, sym, ◌∙◌, ap, append-nil, refl}
use Rattle.region_sets.specs.Ranks.{slots}
use Rattle.region_sets.proofs.Slots.{is_one_of-first}
use Rattle.region_sets.proofs.Changes.{adds_nothing, adds_after}
use Rattle.proof_form.specs.Form.{layer_sets}
use Rattle.proof_form.proofs.Pieces.{layers-append}
use Rattle.proof_form.proofs.Ended.{popped_live, popped_split}
use Rattle.proof_form.proofs.releasing.release_layers.Goals as goal

pub loop-layer-init : goal.loop-layer-init
loop-layer-init g c = ([], sym (append-nil (slots ((layer_sets) c.args.layers.items))), adds_nothing _, refl)

pub release-requires : goal.release-requires
release-requires g c =
    let i = c.loop-layer.invariant in
    popped_live (layer_sets) layers-append c.args.layers.items c.loop-layer.layers.items c.pop.new.self.items c.in-Some.layer (c.layer.inside.set ∷ []) i.0 c.in-Some.ensures.items (ap (λ l. l.set ∷ []) (sym c.layer.view_is)) c.requires.live c.requires.once i.1 i.2 c.layer.inside.set.slot (is_one_of-first c.layer.inside.set.slot [])

pub loop-layer-preserved : goal.loop-layer-preserved
loop-layer-preserved g c =
    let i = c.loop-layer.invariant in
    (slots (c.layer.inside.set ∷ []) ++ i.0, popped_split (layer_sets) layers-append c.args.layers.items c.loop-layer.layers.items c.pop.new.self.items c.in-Some.layer (c.layer.inside.set ∷ []) i.0 c.in-Some.ensures.items (ap (λ l. l.set ∷ []) (sym c.layer.view_is)) c.requires.live c.requires.once i.1 i.2, adds_after c.release.ensures.pins i.2, c.release.ensures.fulls ∙ i.3)
