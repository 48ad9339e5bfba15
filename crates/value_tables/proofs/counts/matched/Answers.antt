use Rattle.std.proofs.Common.{◌+◌, ◌*◌, ◌&&◌, ◌||◌, ◌∙◌, arith}
use Rattle.bdd_nodes.specs.Store.{value_of}
use Rattle.value_tables.specs.Tables.{at_region}
use Rattle.value_tables.proofs.RegionLemmas.{has_item_now, has_region_at, region_at-grows, IsRegion-more, IsRegion-all, IsRegion-none, Keeps-same, Keeps-then, Spends-same, Spends-then}
use Rattle.value_tables.proofs.counts.matched.Goals as goal

pub join_both-requires-clause-f : goal.join_both-requires-clause-f
join_both-requires-clause-f g c = c.loop-cell.invariant.region.has

pub join_both-requires-clause-h : goal.join_both-requires-clause-h
join_both-requires-clause-h g c =
    has_item_now c.args.engine.now.store c.loop-cell.engine.store c.loop-cell.engine.store c.loop-cell.invariant.keeps.engine.grows c.args.left.now c.loop-cell.cell-index c.cell-item.result c.loop-cell-test.true c.cell-item.is c.requires.left

pub join_both-requires-clause-g : goal.join_both-requires-clause-g
join_both-requires-clause-g g c =
    has_region_at c.args.engine.now.store c.loop-cell.engine.store c.loop-cell.invariant.keeps.engine.grows c.args.right.now.items c.requires.right c.cell-item.result.reading c.region_of-equal.result c.region_of-equal.ensures

pub loop-cell-init : goal.loop-cell-init
loop-cell-init g c = record {
  region = IsRegion-none c.args.engine.now.store (λ bits. at_region (λ q. value_of c.args.engine.now.store q bits) c.args.right.now.items) (λ bits q. value_of c.args.engine.now.store q bits);
  keeps = Keeps-same c.args.engine.now c.args.steps.now;
  spends = Spends-same c.args.engine.now.store 0;
}

pub loop-cell-preserved : goal.loop-cell-preserved
loop-cell-preserved g c =
    let s = c.args.engine.now.store in
    let a = c.loop-cell.engine.store in
    let b = c.join_both.new.engine.store in
    let i = c.loop-cell.invariant in
    let e = c.in_ok-hit.ensures in
    record {
      region = IsRegion-more s a b i.keeps.engine.grows c.args.left.now c.loop-cell.cell-index c.cell-item.result c.loop-cell-test.true c.cell-item.is c.requires.left (λ bits. at_region (λ q. value_of s q bits) c.args.right.now.items) c.loop-cell.hit c.in_ok-hit.hit i.region e.region.has
          (λ bits. e.region.value bits ∙ (λ j. value_of a c.loop-cell.hit bits || (region_at-grows s a i.keeps.engine.grows c.args.right.now.items c.requires.right c.cell-item.result.reading c.region_of-equal.result c.region_of-equal.ensures bits j && value_of a c.cell-item.result.region bits)));
      keeps = Keeps-then c.args.engine.now c.loop-cell.engine c.join_both.new.engine c.args.steps.now c.loop-cell.steps c.join_both.new.steps i.keeps c.join_both.ensures.call.keeps;
      spends = Spends-then s a b (2 * c.loop-cell.cell-index) 2 (2 * (c.loop-cell.cell-index + 1)) i.keeps.engine.grows.levels (omega arith) i.spends c.join_both.ensures.spends;
    }

pub returns-clause-region : goal.returns-clause-region
returns-clause-region g c =
    IsRegion-all c.args.engine.now.store c.loop-cell.engine.store c.args.left.now c.loop-cell.cell-index (λ bits. at_region (λ q. value_of c.args.engine.now.store q bits) c.args.right.now.items) c.loop-cell.hit c.loop-cell-test.false c.loop-cell.invariant.region
