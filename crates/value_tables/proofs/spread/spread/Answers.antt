use Rattle.std.proofs.Common.{◌+◌, ◌*◌, [], take, arith}
use Rattle.bdd_nodes.specs.Store.{value_of}
use Rattle.value_tables.specs.Cells.{shows}
use Rattle.value_tables.specs.Pick.{becomes}
use Rattle.value_tables.proofs.RegionLemmas.{has_item_now, Keeps-same, Keeps-then, Spends-same, Spends-then}
use Rattle.value_tables.specs.Weights.{overlap, overlaps}
use Rattle.value_tables.proofs.WeightLemmas.{Spends-more, overlaps_more, overlaps_more_le, overlaps_all}
use Rattle.value_tables.proofs.SpreadLemmas.{spread_none, spread_step, spread_all}
use Rattle.value_tables.proofs.spread.spread.Goals as goal

pub put-requires-clause-cell : goal.put-requires-clause-cell
put-requires-clause-cell g c =
    has_item_now c.args.engine.now.store c.loop-cell.engine.store c.loop-cell.engine.store c.loop-cell.invariant.keeps.engine.grows c.args.cells.now c.loop-cell.cell-index c.cell-item.result c.loop-cell-test.true c.cell-item.is c.requires.cells

pub put-requires-clause-within : goal.put-requires-clause-within
put-requires-clause-within g c = c.loop-cell.invariant.keeps.engine.grows.has c.args.within c.requires.within

pub put-requires-clause-out : goal.put-requires-clause-out
put-requires-clause-out g c = c.loop-cell.invariant.cells

pub loop-cell-init : goal.loop-cell-init
loop-cell-init g c = record {
  cells = c.requires.out;
  shows = λ bits k. spread_none (shows (λ r. value_of c.args.engine.now.store r bits) c.args.out.now.items k) (value_of c.args.engine.now.store c.args.within bits);
  few = omega arith;
  keeps = Keeps-same c.args.engine.now c.args.steps.now;
  thrifty = Spends-same c.args.engine.now.store (2 * overlaps c.args.engine.now.store [] c.args.within);
  spends = Spends-same c.args.engine.now.store 0;
}

pub loop-cell-preserved : goal.loop-cell-preserved
loop-cell-preserved g c =
    let s = c.args.engine.now.store in
    let a = c.loop-cell.engine.store in
    let b = c.put.new.engine.store in
    let i = c.loop-cell.invariant in
    let e = c.in_ok-put.ensures in
    record {
      cells = e.cells;
      shows = λ bits k. spread_step s a i.keeps.engine.grows c.args.cells.now c.loop-cell.cell-index c.cell-item.result c.loop-cell-test.true c.cell-item.is c.requires.cells c.args.within c.requires.within _ _ _ (becomes c.args.pick k) bits (i.shows bits k) (e.shows bits k);
      few = omega (arith, e.few);
      keeps = Keeps-then c.args.engine.now c.loop-cell.engine c.put.new.engine c.args.steps.now c.loop-cell.steps c.put.new.steps i.keeps c.put.ensures.call.keeps;
      thrifty = Spends-then s a b (2 * overlaps s (take c.loop-cell.cell-index c.args.cells.now) c.args.within) (2 * overlap a c.cell-item.result.region c.args.within) (2 * overlaps s (take (c.loop-cell.cell-index + 1) c.args.cells.now) c.args.within) i.keeps.engine.grows.levels
          (omega (arith, overlaps_more s a i.keeps.engine.grows c.args.cells.now c.loop-cell.cell-index c.cell-item.result c.loop-cell-test.true c.cell-item.is c.requires.cells c.args.within c.requires.within)) i.thrifty e.thrifty;
      spends = Spends-then s a b (2 * c.loop-cell.cell-index) 2 (2 * (c.loop-cell.cell-index + 1)) i.keeps.engine.grows.levels (omega arith) i.spends c.put.ensures.spends;
    }

pub returns-clause-shows : goal.returns-clause-shows
returns-clause-shows g c = λ bits k. spread_all c.args.engine.now.store c.args.cells.now c.loop-cell.cell-index c.loop-cell-test.false _ _ (becomes c.args.pick k) _ bits (c.loop-cell.invariant.shows bits k)

pub returns-clause-thrifty : goal.returns-clause-thrifty
returns-clause-thrifty g c =
    let s = c.args.engine.now.store in
    Spends-more s c.loop-cell.engine.store _ (2 * overlaps s c.args.cells.now c.args.within) (omega (arith, overlaps_all s c.args.cells.now c.loop-cell.cell-index c.args.within c.loop-cell-test.false)) c.loop-cell.invariant.thrifty

pub returns-clause-frugal : goal.returns-clause-frugal
returns-clause-frugal g c =
    let s = c.args.engine.now.store in
    Spends-more s c.loop-cell.engine.store _ (2 * overlaps s c.args.cells.now c.args.within + 1) (omega (arith, overlaps_all s c.args.cells.now c.loop-cell.cell-index c.args.within c.loop-cell-test.false)) c.loop-cell.invariant.thrifty

pub returns-in_err-put-clause-frugal : goal.returns-in_err-put-clause-frugal
returns-in_err-put-clause-frugal g c =
    let s = c.args.engine.now.store in
    let a = c.loop-cell.engine.store in
    let i = c.loop-cell.invariant in
    Spends-then s a c.put.new.engine.store _ _ (2 * overlaps s c.args.cells.now c.args.within + 1) i.keeps.engine.grows.levels
    (omega (arith, overlaps_more_le s a i.keeps.engine.grows c.args.cells.now c.loop-cell.cell-index c.cell-item.result c.loop-cell-test.true c.cell-item.is c.requires.cells c.args.within c.requires.within)) i.thrifty c.put.ensures.frugal
