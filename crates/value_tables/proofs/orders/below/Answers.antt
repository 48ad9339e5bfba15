use Rattle.std.proofs.Common.{◌*◌, length, sym, subst, arith}
use Rattle.value_tables.specs.Orders.{AreMarks}
use Rattle.value_tables.proofs.WeightLemmas.{Spends-more}
use Rattle.value_tables.proofs.StepLemmas.{if_ok}
use Rattle.value_tables.proofs.OrderLemmas.{has_both, few_both, below_passed}
use Rattle.value_tables.proofs.orders.below.Goals as goal

pub pairs_of-requires-clause-marks : goal.pairs_of-requires-clause-marks
pairs_of-requires-clause-marks g c =
    has_both c.args.strict c.args.lesser.now c.args.greater.now c.deref.result.now (subst (AreMarks c.args.strict c.args.lesser.now c.args.greater.now) (sym c.deref.ensures.value) c.in-Ok.ensures) c.args.engine.now.store c.requires.lesser c.requires.greater

pub pairs_of-requires-clause-sorted : goal.pairs_of-requires-clause-sorted
pairs_of-requires-clause-sorted g c =
    (subst (AreMarks c.args.strict c.args.lesser.now c.args.greater.now)
    (sym c.deref.ensures.value) c.in-Ok.ensures).sorted

pub returns-clause-region : goal.returns-clause-region
returns-clause-region g c =
    let s = c.args.engine.now.store in
    let marks = subst (AreMarks c.args.strict c.args.lesser.now c.args.greater.now) (sym c.deref.ensures.value) c.in-Ok.ensures in
    if_ok c.pairs_of.result c.pairs_of.ensures.region
    (λ r. below_passed c.args.strict c.args.lesser.now c.args.greater.now c.deref.result.now marks
    s c.pairs_of.new.engine.store r)

pub returns-clause-spends : goal.returns-clause-spends
returns-clause-spends g c =
    let marks = subst (AreMarks c.args.strict c.args.lesser.now c.args.greater.now) (sym c.deref.ensures.value) c.in-Ok.ensures in
    Spends-more c.args.engine.now.store c.pairs_of.new.engine.store
    (5 * length c.deref.result.now) _ (omega
    (arith, few_both c.args.strict c.args.lesser.now c.args.greater.now c.deref.result.now marks))
    c.pairs_of.ensures.spends
