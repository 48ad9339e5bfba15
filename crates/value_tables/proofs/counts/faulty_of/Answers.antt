use Rattle.std.proofs.Common.{◌+◌, arith}
use Rattle.bdd_nodes.specs.Store.{value_of}
use Rattle.value_tables.specs.Tables.{is_fault}
use Rattle.value_tables.proofs.RegionLemmas.{has_item_now, IsRegion-more, IsRegion-all, IsRegion-none, Keeps-same, Keeps-then, Spends-same, Spends-then}
use Rattle.value_tables.proofs.counts.faulty_of.Goals as goal

pub with_fault-requires-clause-faulty : goal.with_fault-requires-clause-faulty
with_fault-requires-clause-faulty g c = c.loop-cell.invariant.region.has

pub with_fault-requires-clause-cell : goal.with_fault-requires-clause-cell
with_fault-requires-clause-cell g c =
    has_item_now c.args.engine.now.store c.loop-cell.engine.store c.loop-cell.engine.store c.loop-cell.invariant.keeps.engine.grows c.args.cells.now c.loop-cell.cell-index c.cell-item.result c.loop-cell-test.true c.cell-item.is c.requires

pub loop-cell-init : goal.loop-cell-init
loop-cell-init g c = record {
  region = IsRegion-none c.args.engine.now.store (λ bits. is_fault) (λ bits q. value_of c.args.engine.now.store q bits);
  keeps = Keeps-same c.args.engine.now c.args.steps.now;
  spends = Spends-same c.args.engine.now.store 0;
}

pub loop-cell-preserved : goal.loop-cell-preserved
loop-cell-preserved g c =
    let s = c.args.engine.now.store in
    let a = c.loop-cell.engine.store in
    let b = c.with_fault.new.engine.store in
    let i = c.loop-cell.invariant in
    let e = c.in_ok-faulty.ensures in
    record {
      region = IsRegion-more s a b i.keeps.engine.grows c.args.cells.now c.loop-cell.cell-index c.cell-item.result c.loop-cell-test.true c.cell-item.is c.requires (λ bits. is_fault) c.loop-cell.faulty c.in_ok-faulty.faulty i.region e.region.has e.region.value;
      keeps = Keeps-then c.args.engine.now c.loop-cell.engine c.with_fault.new.engine c.args.steps.now c.loop-cell.steps c.with_fault.new.steps i.keeps c.with_fault.ensures.call.keeps;
      spends = Spends-then s a b c.loop-cell.cell-index 1 (c.loop-cell.cell-index + 1) i.keeps.engine.grows.levels (omega arith) i.spends c.with_fault.ensures.spends;
    }

pub returns-clause-region : goal.returns-clause-region
returns-clause-region g c =
    IsRegion-all c.args.engine.now.store c.loop-cell.engine.store c.args.cells.now c.loop-cell.cell-index (λ bits. is_fault) c.loop-cell.faulty c.loop-cell-test.false c.loop-cell.invariant.region
