use Rattle.std.proofs.Common.{[]}
use Rattle.std.proofs.lemmas.Result.{err_from_is_err_and}
use Rattle.region_sets.specs.Ranks.{list_regions}
use Rattle.rank_extract.proofs.Adding.{loop_more, loop_refused}
use Rattle.rank_extract.proofs.Holders.{list_kind}
use Rattle.rank_extract.proofs.Places.{list_live, list_there, few_lists}
use Rattle.rank_extract.proofs.copying.add_lists.Goals as goal

pub add_list-requires : goal.add_list-requires
add_list-requires g c = list_live c.loop-k.invariant.call.pins c.args.lists.now c.loop-k.k c.index-lists-k.result c.deref.result.now c.deref.ensures.value c.requires c.loop-k-test.true c.index-lists-k.is

pub returns-in_err-add_list : goal.returns-in_err-add_list
returns-in_err-add_list g c =
    let p = err_from_is_err_and c.from_residual.result c.from_residual.ensures.1 in
    rw (p.1, p.2)
    (loop_refused list_kind (list_regions (g.S.StateSets.seen c.args.sets.now) c.args.lists.now) c.loop-k.k [] (few_lists (g.S.StateSets.seen c.args.sets.now) c.args.lists.now c.loop-k.k c.loop-k-test.true)
    (list_there c.loop-k.invariant.call.pins c.args.lists.now c.loop-k.k c.index-lists-k.result c.deref.result.now c.deref.ensures.value c.requires c.loop-k-test.true c.index-lists-k.is) c.loop-k.invariant c.in_err-add_list.ensures)

pub loop-k-preserved : goal.loop-k-preserved
loop-k-preserved g c =
    loop_more list_kind (list_regions (g.S.StateSets.seen c.args.sets.now) c.args.lists.now) c.loop-k.k [] (few_lists (g.S.StateSets.seen c.args.sets.now) c.args.lists.now c.loop-k.k c.loop-k-test.true)
    (list_there c.loop-k.invariant.call.pins c.args.lists.now c.loop-k.k c.index-lists-k.result c.deref.result.now c.deref.ensures.value c.requires c.loop-k-test.true c.index-lists-k.is) c.loop-k.invariant c.in_ok-add_list.ensures
