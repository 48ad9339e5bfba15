use Rattle.std.proofs.Common.{◌+◌, ◌*◌, length, arith, rules}
use Rattle.value_tables.proofs.WeightLemmas.{Spends-more}
use Rattle.value_tables.proofs.RegionLemmas.{AreCells-grows, keeps_join, Spends-then}
use Rattle.value_tables.proofs.BinaryLemmas.{reads_grows}
use Rattle.value_tables.proofs.binary.tested_pair.Goals as goal

pub tested-requires-2 : goal.tested-requires-2
tested-requires-2 g c = AreCells-grows c.args.engine.now.store c.tested.new.engine.store c.tested.ensures.call.keeps.engine.grows c.args.right.now.cells.items c.requires.right

pub returns-clause-left : goal.returns-clause-left
returns-clause-left g c = AreCells-grows c.tested.new.engine.store c.tested-2.new.engine.store c.tested-2.ensures.call.keeps.engine.grows _ c.in_ok-left.ensures.cells

pub returns-clause-reads_left : goal.returns-clause-reads_left
returns-clause-reads_left g c = λ bits r o. reads_grows c.tested.new.engine.store c.tested-2.new.engine.store c.tested-2.ensures.call.keeps.engine.grows _ c.in_ok-left.ensures.cells.has bits _ (c.in_ok-left.ensures.reads bits r o.reads o.proper o.few)

pub returns-clause-reads_right : goal.returns-clause-reads_right
returns-clause-reads_right g c = λ bits r o. c.in_ok-right.ensures.reads bits r (reads_grows c.args.engine.now.store c.tested.new.engine.store c.tested.ensures.call.keeps.engine.grows c.args.right.now.cells.items c.requires.right.has bits r o.reads) o.proper o.few

pub returns-clause-call : goal.returns-clause-call
returns-clause-call g c = record { keeps = keeps_join c.tested.ensures.call.keeps c.tested-2.ensures.call.keeps; held = search rules }

pub returns-in_err-right-clause-call : goal.returns-in_err-right-clause-call
returns-in_err-right-clause-call g c = record { keeps = keeps_join c.tested.ensures.call.keeps c.tested-2.ensures.call.keeps; held = search rules }

pub returns-in_err-left-clause-spends : goal.returns-in_err-left-clause-spends
returns-in_err-left-clause-spends g c =
    let l = length c.args.left.now.cells.items in
    let r = length c.args.right.now.cells.items in
    Spends-more c.args.engine.now.store c.tested.new.engine.store (5 * l + 2) (5 * l + 5 * r + 4) (omega arith) c.tested.ensures.spends

pub returns-in_err-right-clause-spends : goal.returns-in_err-right-clause-spends
returns-in_err-right-clause-spends g c =
    let l = length c.args.left.now.cells.items in
    let r = length c.args.right.now.cells.items in
    Spends-then c.args.engine.now.store c.tested.new.engine.store c.tested-2.new.engine.store (5 * l + 2) (5 * r + 2) (5 * l + 5 * r + 4) c.tested.ensures.call.keeps.engine.grows.levels (omega arith) c.tested.ensures.spends c.tested-2.ensures.spends

pub returns-clause-spends : goal.returns-clause-spends
returns-clause-spends g c =
    let l = length c.args.left.now.cells.items in
    let r = length c.args.right.now.cells.items in
    Spends-then c.args.engine.now.store c.tested.new.engine.store c.tested-2.new.engine.store (5 * l + 2) (5 * r + 2) (5 * l + 5 * r + 4) c.tested.ensures.call.keeps.engine.grows.levels (omega arith) c.tested.ensures.spends c.tested-2.ensures.spends
