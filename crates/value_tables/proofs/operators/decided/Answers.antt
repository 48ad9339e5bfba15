use Rattle.std.proofs.Common.{◌∙◌, arith, rules}
use Rattle.bdd_nodes.specs.Store.{value_of}
use Rattle.value_tables.specs.Cells.{same_reading}
use Rattle.value_tables.proofs.RegionLemmas.{any_cell-grows, AreCells-grows, keeps_join, Spends-then}
use Rattle.value_tables.proofs.WeightLemmas.{Spends-more}
use Rattle.value_tables.proofs.StepLemmas.{decided_each}
use Rattle.value_tables.proofs.operators.decided.Goals as goal

pub add-requires-clause-cells : goal.add-requires-clause-cells
add-requires-clause-cells g c = AreCells-grows c.args.engine.now.store c.sides_of.new.engine.store c.sides_of.ensures.call.keeps.engine.grows c.args.faults.cells.items c.requires.cells

pub returns-clause-shows : goal.returns-clause-shows
returns-clause-shows g c =
    let s = c.args.engine.now.store in
    λ bits k. decided_each k c.truth.result c.truth-2.result c.truth.ensures c.truth-2.ensures _ _ _ _ _ _ (value_of s c.args.hit bits) (value_of s c.args.faults.region bits)
    (c.in_ok-add-2.ensures.shows bits k)
    (c.in_ok-add.ensures.shows bits k)
    (any_cell-grows s c.sides_of.new.engine.store c.sides_of.ensures.call.keeps.engine.grows c.args.faults.cells.items c.requires.cells.has bits (same_reading k))
    (c.in_ok-sides.ensures.no.value bits)
    (c.add.ensures.call.keeps.engine.grows.value c.in_ok-sides.sides.yes c.in_ok-sides.ensures.yes.has bits ∙ c.in_ok-sides.ensures.yes.value bits)

pub returns-in_err-add-clause-call : goal.returns-in_err-add-clause-call
returns-in_err-add-clause-call g c = record { keeps = keeps_join c.sides_of.ensures.call.keeps c.add.ensures.call.keeps; held = search rules }

pub returns-in_err-add-2-clause-call : goal.returns-in_err-add-2-clause-call
returns-in_err-add-2-clause-call g c = record { keeps = keeps_join (keeps_join c.sides_of.ensures.call.keeps c.add.ensures.call.keeps) c.add-2.ensures.call.keeps; held = search rules }

pub returns-clause-call : goal.returns-clause-call
returns-clause-call g c = record { keeps = keeps_join (keeps_join c.sides_of.ensures.call.keeps c.add.ensures.call.keeps) c.add-2.ensures.call.keeps; held = search rules }

pub returns-in_err-sides-clause-spends : goal.returns-in_err-sides-clause-spends
returns-in_err-sides-clause-spends g c = Spends-more c.args.engine.now.store c.sides_of.new.engine.store 4 6 (omega arith) c.sides_of.ensures.spends

pub returns-in_err-add-clause-spends : goal.returns-in_err-add-clause-spends
returns-in_err-add-clause-spends g c = Spends-then c.args.engine.now.store c.sides_of.new.engine.store c.add.new.engine.store 4 1 6 c.sides_of.ensures.call.keeps.engine.grows.levels (omega arith) c.sides_of.ensures.spends c.add.ensures.spends

pub returns-in_err-add-2-clause-spends : goal.returns-in_err-add-2-clause-spends
returns-in_err-add-2-clause-spends g c =
    let s = c.args.engine.now.store in
    let a = c.sides_of.new.engine.store in
    let b = c.add.new.engine.store in
    let first = c.sides_of.ensures.call.keeps.engine.grows.levels in
    Spends-then s b c.add-2.new.engine.store 5 1 6 (c.add.ensures.call.keeps.engine.grows.levels ∙ first) (omega arith) (Spends-then s a b 4 1 5 first (omega arith) c.sides_of.ensures.spends c.add.ensures.spends) c.add-2.ensures.spends

pub returns-clause-spends : goal.returns-clause-spends
returns-clause-spends g c =
    let s = c.args.engine.now.store in
    let a = c.sides_of.new.engine.store in
    let b = c.add.new.engine.store in
    let first = c.sides_of.ensures.call.keeps.engine.grows.levels in
    Spends-then s b c.add-2.new.engine.store 5 1 6 (c.add.ensures.call.keeps.engine.grows.levels ∙ first) (omega arith) (Spends-then s a b 4 1 5 first (omega arith) c.sides_of.ensures.spends c.add.ensures.spends) c.add-2.ensures.spends
