use Rattle.std.proofs.Common.{◌≤◌, arith, length}
use Rattle.smv_names.proofs.FillLemmas.{fill_end}
use Rattle.smv_names.proofs.tables.tables_of.Goals as goal

pub loop-k-init : goal.loop-k-init
loop-k-init c = λ p targets ordered. c.in_ok-tables.ensures p c.args.order.now.order.items targets.started.nodes_are.all

pub fill_at-requires : goal.fill_at-requires
fill_at-requires c =
    let p = c.requires.0 in
    (p, c.requires.1, c.requires.2, c.loop-k.invariant p c.requires.1 c.requires.2, omega (arith, c.loop-k-test.true))

pub loop-k-preserved : goal.loop-k-preserved
loop-k-preserved c = λ p targets ordered. c.in_ok-fill_at.ensures p targets ordered (c.loop-k.invariant p targets ordered)

pub returns : goal.returns
returns c = λ p targets ordered.
    let w = c.loop-k.invariant p targets ordered in
    let full : length c.args.order.now.order.items ≤ c.loop-k.k = omega (arith, c.loop-k-test.false) in
    (fill_end ordered w.numbers full, w.numbers.lengths, fill_end ordered w.sizes full, w.sizes.lengths, fill_end ordered w.ends full, w.ends.lengths)
