use Rattle.std.proofs.Common.{◌≡◌, ◌+◌, ◌*◌, ◌||◌, [], take, false, Bool, true, refl, ap, ◌∙◌, arith}
use Rattle.std.proofs.lemmas.List.{take_all}
use Rattle.bdd_nodes.specs.Store.{value_of}
use Rattle.value_tables.specs.Cells.{shows, any_cell}
use Rattle.value_tables.specs.Tables.{pairs_to}
use Rattle.value_tables.proofs.RegionLemmas.{has_item_now, has-grows, pairs_step, Keeps-same, Keeps-then, Spends-same, Spends-then}
use Rattle.value_tables.specs.Weights.{weight, weights}
use Rattle.value_tables.proofs.WeightLemmas.{Spends-more, AreApart-grows, weights_more, weights_more_le, weights_all}
use Rattle.value_tables.proofs.pairs.pair_up.Goals as goal

pub pair_with-requires-clause-cell : goal.pair_with-requires-clause-cell
pair_with-requires-clause-cell g c =
    has_item_now c.args.engine.now.store c.loop-cell.engine.store c.loop-cell.engine.store c.loop-cell.invariant.keeps.engine.grows c.args.left.now c.loop-cell.cell-index c.cell-item.result c.loop-cell-test.true c.cell-item.is c.requires.left

pub pair_with-requires-clause-right : goal.pair_with-requires-clause-right
pair_with-requires-clause-right g c = has-grows c.args.engine.now.store c.loop-cell.engine.store c.loop-cell.invariant.keeps.engine.grows c.args.right.now c.requires.right

pub pair_with-requires-clause-out : goal.pair_with-requires-clause-out
pair_with-requires-clause-out g c = c.loop-cell.invariant.cells

or_none : (a : Bool) → a ≡ (a || false)
or_none true = refl
or_none false = refl

pub loop-cell-init : goal.loop-cell-init
loop-cell-init g c = record {
  cells = c.requires.out;
  shows = λ bits k. or_none (shows (λ r. value_of c.args.engine.now.store r bits) c.args.out.now.items k);
  keeps = Keeps-same c.args.engine.now c.args.steps.now;
  thrifty = λ apart. Spends-same c.args.engine.now.store (2 * weights c.args.engine.now.store []);
}

pub loop-cell-preserved : goal.loop-cell-preserved
loop-cell-preserved g c =
    let s = c.args.engine.now.store in
    let a = c.loop-cell.engine.store in
    let b = c.pair_with.new.engine.store in
    let i = c.loop-cell.invariant in
    let e = c.in_ok-pair_with.ensures in
    record {
      cells = e.cells;
      shows = λ bits k. pairs_step s a i.keeps.engine.grows c.args.left.now c.args.right.now c.requires.left c.requires.right c.args.op k bits c.loop-cell.cell-index c.cell-item.result c.loop-cell-test.true c.cell-item.is _ _ _ (i.shows bits k) (e.shows bits k);
      keeps = Keeps-then c.args.engine.now c.loop-cell.engine c.pair_with.new.engine c.args.steps.now c.loop-cell.steps c.pair_with.new.steps i.keeps c.pair_with.ensures.call.keeps;
      thrifty = λ apart. Spends-then s a b (2 * weights s (take c.loop-cell.cell-index c.args.left.now)) (2 * weight a c.cell-item.result.region) (2 * weights s (take (c.loop-cell.cell-index + 1) c.args.left.now)) i.keeps.engine.grows.levels
          (omega (arith, weights_more s a i.keeps.engine.grows c.args.left.now c.loop-cell.cell-index c.cell-item.result c.loop-cell-test.true c.cell-item.is c.requires.left)) (i.thrifty apart)
          (e.thrifty (AreApart-grows s a i.keeps.engine.grows c.args.right.now c.requires.right apart));
    }

pub returns-clause-shows : goal.returns-clause-shows
returns-clause-shows g c =
    let s = c.args.engine.now.store in
    λ bits k. c.loop-cell.invariant.shows bits k
    ∙ ap (λ xs. shows (λ r. value_of s r bits) c.args.out.now.items k || any_cell (λ r. value_of s r bits) (pairs_to (λ r. value_of s r bits) c.args.op k c.args.right.now) xs) (take_all c.loop-cell.cell-index c.args.left.now c.loop-cell-test.false)

pub returns-clause-frugal : goal.returns-clause-frugal
returns-clause-frugal g c =
    let s = c.args.engine.now.store in
    λ apart. Spends-more s c.loop-cell.engine.store _ (2 * weights s c.args.left.now + 1) (omega (arith, weights_all s c.args.left.now c.loop-cell.cell-index c.loop-cell-test.false)) (c.loop-cell.invariant.thrifty apart)

pub returns-in_err-pair_with-clause-frugal : goal.returns-in_err-pair_with-clause-frugal
returns-in_err-pair_with-clause-frugal g c =
    let s = c.args.engine.now.store in
    let a = c.loop-cell.engine.store in
    let i = c.loop-cell.invariant in
    λ apart. Spends-then s a c.pair_with.new.engine.store _ _ (2 * weights s c.args.left.now + 1) i.keeps.engine.grows.levels
    (omega (arith, weights_more_le s a i.keeps.engine.grows c.args.left.now c.loop-cell.cell-index c.cell-item.result c.loop-cell-test.true c.cell-item.is c.requires.left)) (i.thrifty apart)
    (c.pair_with.ensures.frugal (AreApart-grows s a i.keeps.engine.grows c.args.right.now c.requires.right apart))
