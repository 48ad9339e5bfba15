use Rattle.std.proofs.Common.{map}
use Rattle.std.proofs.lemmas.Result.{err_from_is_err_and}
use Rattle.fair_fixpoint.specs.Runs.{layer_views}
use Rattle.rank_extract.specs.Given.{written_layer}
use Rattle.rank_extract.proofs.Adding.{loop_more, loop_refused}
use Rattle.rank_extract.proofs.Holders.{layer_kind}
use Rattle.rank_extract.proofs.Places.{layer_live, layer_there, few_layers, itself, no_layer}
use Rattle.rank_extract.proofs.copying.add_layers.Goals as goal

pub add_layer-requires : goal.add_layer-requires
add_layer-requires g c = layer_live c.loop-k.invariant.call.pins c.args.layers.now c.loop-k.k _ c.requires c.loop-k-test.true (itself c.args.layers.now c.loop-k.k _ c.loop-k-test.true)

pub returns-in_err-add_layer : goal.returns-in_err-add_layer
returns-in_err-add_layer g c =
    let p = err_from_is_err_and c.from_residual.result c.from_residual.ensures.1 in
    rw (p.1, p.2)
    (loop_refused layer_kind (map written_layer (layer_views (g.S.StateSets.seen c.args.sets.now) c.args.layers.now)) c.loop-k.k no_layer
    (few_layers (g.S.StateSets.seen c.args.sets.now) c.args.layers.now c.loop-k.k c.loop-k-test.true)
    (layer_there c.loop-k.invariant.call.pins c.args.layers.now c.loop-k.k _ c.requires c.loop-k-test.true (itself c.args.layers.now c.loop-k.k _ c.loop-k-test.true)) c.loop-k.invariant c.in_err-add_layer.ensures)

pub loop-k-preserved : goal.loop-k-preserved
loop-k-preserved g c =
    loop_more layer_kind (map written_layer (layer_views (g.S.StateSets.seen c.args.sets.now) c.args.layers.now)) c.loop-k.k no_layer
    (few_layers (g.S.StateSets.seen c.args.sets.now) c.args.layers.now c.loop-k.k c.loop-k-test.true)
    (layer_there c.loop-k.invariant.call.pins c.args.layers.now c.loop-k.k _ c.requires c.loop-k-test.true (itself c.args.layers.now c.loop-k.k _ c.loop-k-test.true)) c.loop-k.invariant c.in_ok-add_layer.ensures
