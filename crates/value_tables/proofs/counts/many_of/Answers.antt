use Rattle.std.proofs.Common.{◌+◌, ◌*◌, refl, arith}
use Rattle.value_tables.proofs.RegionLemmas.{has_item_now, Keeps-same, Keeps-then, Spends-same, Spends-then}
use Rattle.value_tables.proofs.CountLemmas.{none_counted, one_more, two_more, count_all}
use Rattle.value_tables.proofs.counts.many_of.Goals as goal

pub one_more-requires-clause-one : goal.one_more-requires-clause-one
one_more-requires-clause-one g c = c.loop-cell.invariant.one.has

pub one_more-requires-clause-two : goal.one_more-requires-clause-two
one_more-requires-clause-two g c = c.loop-cell.invariant.two.has

pub one_more-requires-clause-region : goal.one_more-requires-clause-region
one_more-requires-clause-region g c =
    has_item_now c.args.engine.now.store c.loop-cell.engine.store c.loop-cell.engine.store c.loop-cell.invariant.keeps.engine.grows c.args.cells.now c.loop-cell.cell-index c.cell-item.result c.loop-cell-test.true c.cell-item.is c.requires

pub loop-cell-init : goal.loop-cell-init
loop-cell-init g c = record {
  one = none_counted c.args.engine.now.store 0 refl;
  two = none_counted c.args.engine.now.store 1 refl;
  keeps = Keeps-same c.args.engine.now c.args.steps.now;
  spends = Spends-same c.args.engine.now.store 0;
}

pub loop-cell-preserved : goal.loop-cell-preserved
loop-cell-preserved g c =
    let s = c.args.engine.now.store in
    let a = c.loop-cell.engine.store in
    let b = c.one_more.new.engine.store in
    let i = c.loop-cell.invariant in
    let e = c.in_ok-so_far.ensures in
    record {
      one = one_more s a b i.keeps.engine.grows c.args.cells.now c.loop-cell.cell-index c.cell-item.result c.loop-cell-test.true c.cell-item.is c.requires c.loop-cell.so_far.one c.loop-cell.so_far.two i.one c.in_ok-so_far.so_far.one e.one;
      two = two_more s a b i.keeps.engine.grows c.args.cells.now c.loop-cell.cell-index c.cell-item.result c.loop-cell-test.true c.cell-item.is c.requires c.loop-cell.so_far.one c.loop-cell.so_far.two i.one i.two c.in_ok-so_far.so_far.two e.two;
      keeps = Keeps-then c.args.engine.now c.loop-cell.engine c.one_more.new.engine c.args.steps.now c.loop-cell.steps c.one_more.new.steps i.keeps c.one_more.ensures.call.keeps;
      spends = Spends-then s a b (3 * c.loop-cell.cell-index) 3 (3 * (c.loop-cell.cell-index + 1)) i.keeps.engine.grows.levels (omega arith) i.spends c.one_more.ensures.spends;
    }

pub returns-clause-region : goal.returns-clause-region
returns-clause-region g c =
    count_all c.args.engine.now.store c.loop-cell.engine.store 1 c.args.cells.now c.loop-cell.cell-index c.loop-cell.so_far.two c.loop-cell-test.false c.loop-cell.invariant.two
