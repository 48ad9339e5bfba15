use Rattle.std.proofs.Common.{◌+◌, ◌*◌, ◌&&◌, ◌||◌, length, ◌∙◌, arith, rules}
use Rattle.std.proofs.lemmas.Result.{on_ok_weaker}
use Rattle.value_tables.specs.declared.pick.Test.{Test}
use Rattle.value_tables.specs.Cells.{same_reading}
use Rattle.value_tables.specs.Tables.{one_tested, truths, guard_of, arm_shows, goes_on}
use Rattle.value_tables.proofs.RegionLemmas.{any_cell-grows, AreCells-grows, keeps_join, Spends-then}
use Rattle.value_tables.proofs.WeightLemmas.{Spends-more}
use Rattle.value_tables.proofs.OperatorLemmas.{boolean_tested}
use Rattle.value_tables.proofs.BinaryLemmas.{reads_grows, reads_as}
use Rattle.value_tables.proofs.StepLemmas.{if_ok}
use Rattle.value_tables.proofs.sets.add_arm.Goals as goal

pub choose-requires-clause-right : goal.choose-requires-clause-right
choose-requires-clause-right g c = AreCells-grows c.args.engine.now.store c.tested.new.engine.store c.tested.ensures.call.keeps.engine.grows c.args.right.now c.requires.right

pub choose-requires-clause-out : goal.choose-requires-clause-out
choose-requires-clause-out g c = AreCells-grows c.args.engine.now.store c.tested.new.engine.store c.tested.ensures.call.keeps.engine.grows c.args.out.now.items c.requires.out

pub returns-clause-shows : goal.returns-clause-shows
returns-clause-shows g c =
    let s = c.args.engine.now.store in
    let t = c.tested.new.engine.store in
    let grows = c.tested.ensures.call.keeps.engine.grows in
    on_ok_weaker c.choose.result (λ shown bits r d x y k.
    shown bits (guard_of r) d
    (reads_as _ _ (one_tested Test.Boolean r) (truths (guard_of r)) (boolean_tested r) (c.in_ok-boolean.ensures.reads bits r x.reads x.proper x.few))
    (reads_grows s t grows c.args.right.now c.requires.right.has bits d y) k
    ∙ (λ j. any_cell-grows s t grows c.args.out.now.items c.requires.out.has bits (same_reading k) j || (grows.value c.args.left c.requires.left bits j && arm_shows (guard_of r) d k)))
    c.choose.ensures.shows

pub returns-clause-rest : goal.returns-clause-rest
returns-clause-rest g c =
    let grows = c.tested.ensures.call.keeps.engine.grows in
    if_ok c.choose.result c.choose.ensures.rest (λ r h bits b x.
    h bits (guard_of b) (reads_as _ _ (one_tested Test.Boolean b) (truths (guard_of b)) (boolean_tested b) (c.in_ok-boolean.ensures.reads bits b x.reads x.proper x.few))
    ∙ (λ j. grows.value c.args.left c.requires.left bits j && goes_on (guard_of b)))

pub returns-clause-call : goal.returns-clause-call
returns-clause-call g c = record { keeps = keeps_join c.tested.ensures.call.keeps c.choose.ensures.call.keeps; held = search rules }

pub returns-in_err-boolean-clause-spends : goal.returns-in_err-boolean-clause-spends
returns-in_err-boolean-clause-spends g c =
    let n = length c.args.guard.now.cells.items in
    Spends-more c.args.engine.now.store c.tested.new.engine.store (5 * n + 2) (7 * n + 2 * length c.args.right.now + 6) (omega arith) c.tested.ensures.spends

pub returns-clause-spends : goal.returns-clause-spends
returns-clause-spends g c =
    let n = length c.args.guard.now.cells.items in
    let r = length c.args.right.now in
    Spends-then c.args.engine.now.store c.tested.new.engine.store c.choose.new.engine.store (5 * n + 2) (2 * length c.in_ok-boolean.boolean.items + 2 * r + 2) (7 * n + 2 * r + 6) c.tested.ensures.call.keeps.engine.grows.levels
    (omega (arith, c.in_ok-boolean.ensures.few)) c.tested.ensures.spends c.choose.ensures.spends
