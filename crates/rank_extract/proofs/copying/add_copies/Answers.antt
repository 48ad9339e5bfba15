use Rattle.std.proofs.lemmas.Result.{err_from_is_err_and}
use Rattle.fair_rules.specs.SetLists.{nothing}
use Rattle.region_sets.specs.Ranks.{regions}
use Rattle.rank_extract.proofs.Adding.{loop_more, loop_refused}
use Rattle.rank_extract.proofs.Holders.{pin_kind}
use Rattle.rank_extract.proofs.Places.{pin_live, pin_there, few_regions, itself}
use Rattle.rank_extract.proofs.copying.add_copies.Goals as goal

pub add_copy-requires : goal.add_copy-requires
add_copy-requires g c = pin_live c.loop-k.invariant.call.pins c.args.list.now c.loop-k.k _ c.requires c.loop-k-test.true (itself c.args.list.now c.loop-k.k _ c.loop-k-test.true)

pub returns-in_err-add_copy : goal.returns-in_err-add_copy
returns-in_err-add_copy g c =
    let p = err_from_is_err_and c.from_residual.result c.from_residual.ensures.1 in
    rw (p.1, p.2)
    (loop_refused pin_kind (regions (g.S.StateSets.seen c.args.sets.now) c.args.list.now) c.loop-k.k nothing (few_regions (g.S.StateSets.seen c.args.sets.now) c.args.list.now c.loop-k.k c.loop-k-test.true)
    (pin_there c.loop-k.invariant.call.pins c.args.list.now c.loop-k.k _ c.requires c.loop-k-test.true (itself c.args.list.now c.loop-k.k _ c.loop-k-test.true)) c.loop-k.invariant c.in_err-add_copy.ensures)

pub loop-k-preserved : goal.loop-k-preserved
loop-k-preserved g c =
    loop_more pin_kind (regions (g.S.StateSets.seen c.args.sets.now) c.args.list.now) c.loop-k.k nothing (few_regions (g.S.StateSets.seen c.args.sets.now) c.args.list.now c.loop-k.k c.loop-k-test.true)
    (pin_there c.loop-k.invariant.call.pins c.args.list.now c.loop-k.k _ c.requires c.loop-k-test.true (itself c.args.list.now c.loop-k.k _ c.loop-k-test.true)) c.loop-k.invariant c.in_ok-add_copy.ensures
