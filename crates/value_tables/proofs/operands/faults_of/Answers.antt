use Rattle.std.proofs.Common.{◌+◌, ◌*◌, length, ap, refl, arith, rules}
use Rattle.bdd_nodes.specs.Store.{value_of}
use Rattle.bdd_nodes.proofs.Tables.{value_of-true}
use Rattle.value_tables.specs.declared.pick.Pick.{Pick}
use Rattle.value_tables.specs.Cells.{shows}
use Rattle.value_tables.specs.Pick.{becomes}
use Rattle.value_tables.specs.Tables.{is_fault}
use Rattle.value_tables.proofs.RegionLemmas.{any_cell-grows, has-grows, keeps_join, Spends-then}
use Rattle.value_tables.proofs.WeightLemmas.{Spends-more}
use Rattle.value_tables.proofs.StepLemmas.{faults_each, failure_each}
use Rattle.value_tables.proofs.operands.faults_of.Goals as goal

pub add_later_faults-requires-clause-right : goal.add_later_faults-requires-clause-right
add_later_faults-requires-clause-right g c = has-grows c.args.engine.now.store c.add_faults.new.engine.store c.add_faults.ensures.call.keeps.engine.grows c.args.right.now c.requires.right.has

pub returns-clause-shows : goal.returns-clause-shows
returns-clause-shows g c =
    let s = c.args.engine.now.store in
    let a = c.add_faults.new.engine.store in
    let right = c.args.right.now in
    λ bits r q x y k. faults_each (λ n. value_of s n bits) c.args.left.now right r q x y k _ _ _ _ _ _ _ _
    (c.in_ok-region.ensures.shows bits k)
    (c.in_ok-first.ensures.shows bits k)
    (ap (λ xs. shows (λ n. value_of s n bits) xs k) c.new-cells.ensures.items)
    refl
    (value_of-true s.nodes.keys bits)
    (any_cell-grows s a c.add_faults.ensures.call.keeps.engine.grows right c.requires.right.has bits (becomes Pick.Faults k))
    refl
    (c.in_ok-first.ensures.region.value bits)

pub returns-clause-value : goal.returns-clause-value
returns-clause-value g c =
    let s = c.args.engine.now.store in
    let a = c.add_faults.new.engine.store in
    let right = c.args.right.now in
    λ bits r q x y. failure_each (λ n. value_of s n bits) c.args.left.now right r q x y _ _ _
    (c.in_ok-region.ensures.region.value bits)
    (c.in_ok-first.ensures.region.value bits)
    (any_cell-grows s a c.add_faults.ensures.call.keeps.engine.grows right c.requires.right.has bits is_fault)

pub returns-in_err-region-clause-call : goal.returns-in_err-region-clause-call
returns-in_err-region-clause-call g c = record { keeps = keeps_join c.add_faults.ensures.call.keeps c.add_later_faults.ensures.call.keeps; held = search rules }

pub returns-clause-call : goal.returns-clause-call
returns-clause-call g c = record { keeps = keeps_join c.add_faults.ensures.call.keeps c.add_later_faults.ensures.call.keeps; held = search rules }

pub returns-in_err-first-clause-spends : goal.returns-in_err-first-clause-spends
returns-in_err-first-clause-spends g c =
    Spends-more c.args.engine.now.store c.add_faults.new.engine.store (3 * length c.args.left.now) (3 * length c.args.left.now + 3 * length c.args.right.now + 2) (omega arith) c.add_faults.ensures.spends

pub returns-in_err-region-clause-spends : goal.returns-in_err-region-clause-spends
returns-in_err-region-clause-spends g c =
    let l = length c.args.left.now in
    let r = length c.args.right.now in
    Spends-then c.args.engine.now.store c.add_faults.new.engine.store c.add_later_faults.new.engine.store (3 * l) (3 * r + 2) (3 * l + 3 * r + 2) c.add_faults.ensures.call.keeps.engine.grows.levels (omega arith) c.add_faults.ensures.spends c.add_later_faults.ensures.spends

pub returns-clause-spends : goal.returns-clause-spends
returns-clause-spends g c =
    let l = length c.args.left.now in
    let r = length c.args.right.now in
    Spends-then c.args.engine.now.store c.add_faults.new.engine.store c.add_later_faults.new.engine.store (3 * l) (3 * r + 2) (3 * l + 3 * r + 2) c.add_faults.ensures.call.keeps.engine.grows.levels (omega arith) c.add_faults.ensures.spends c.add_later_faults.ensures.spends
