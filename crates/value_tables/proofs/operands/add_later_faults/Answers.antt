use Rattle.std.proofs.Common.{◌+◌, ◌*◌, ◌&&◌, ◌||◌, length, ◌∙◌, arith, rules}
use Rattle.bdd_nodes.proofs.Tables.{Grows-then}
use Rattle.value_tables.specs.declared.pick.Pick.{Pick}
use Rattle.value_tables.specs.Cells.{same_reading}
use Rattle.value_tables.specs.Pick.{becomes}
use Rattle.value_tables.specs.Tables.{is_fault}
use Rattle.value_tables.proofs.RegionLemmas.{any_cell-grows, has-grows, AreCells-grows, keeps_join, Spends-then}
use Rattle.value_tables.proofs.WeightLemmas.{Spends-more}
use Rattle.value_tables.proofs.StepLemmas.{if_ok, on_ok}
use Rattle.value_tables.proofs.operands.add_later_faults.Goals as goal

pub add_faults-requires-clause-cells : goal.add_faults-requires-clause-cells
add_faults-requires-clause-cells g c = has-grows c.args.engine.now.store c.outside.new.engine.store c.outside.ensures.call.keeps.engine.grows c.args.right.now c.requires.right

pub add_faults-requires-clause-out : goal.add_faults-requires-clause-out
add_faults-requires-clause-out g c = AreCells-grows c.args.engine.now.store c.outside.new.engine.store c.outside.ensures.call.keeps.engine.grows c.args.out.now.items c.requires.out

pub returns-clause-cells : goal.returns-clause-cells
returns-clause-cells g c = on_ok c.join.result (AreCells-grows c.add_faults.new.engine.store c.join.new.engine.store c.join.ensures.call.keeps.engine.grows _ c.in_ok-second.ensures.cells)

pub returns-clause-shows : goal.returns-clause-shows
returns-clause-shows g c =
    let s = c.args.engine.now.store in
    let a = c.outside.new.engine.store in
    let grows = c.outside.ensures.call.keeps.engine.grows in
    on_ok c.join.result (λ bits k.
    any_cell-grows c.add_faults.new.engine.store c.join.new.engine.store c.join.ensures.call.keeps.engine.grows _ c.in_ok-second.ensures.cells.has bits (same_reading k) ∙ c.in_ok-second.ensures.shows bits k
    ∙ (λ j. any_cell-grows s a grows c.args.out.now.items c.requires.out.has bits (same_reading k) j
    || (any_cell-grows s a grows c.args.right.now c.requires.right bits (becomes Pick.Faults k) j && c.in_ok-sound.ensures.region.value bits j)))

pub returns-clause-few : goal.returns-clause-few
returns-clause-few g c = on_ok c.join.result c.in_ok-second.ensures.few

pub returns-clause-region : goal.returns-clause-region
returns-clause-region g c =
    let s = c.args.engine.now.store in
    let a = c.outside.new.engine.store in
    let s_b = Grows-then s a c.add_faults.new.engine.store c.outside.ensures.call.keeps.engine.grows c.add_faults.ensures.call.keeps.engine.grows in
    if_ok c.join.result c.join.ensures.region (λ r h. record {
      has = h.has;
      value = λ bits. h.value bits
          ∙ (λ j. s_b.value c.args.first c.requires.first bits j || (c.in_ok-second.ensures.region.value bits ∙ any_cell-grows s a c.outside.ensures.call.keeps.engine.grows c.args.right.now c.requires.right bits is_fault) j);
    })

pub returns-in_err-second-clause-call : goal.returns-in_err-second-clause-call
returns-in_err-second-clause-call g c = record { keeps = keeps_join c.outside.ensures.call.keeps c.add_faults.ensures.call.keeps; held = search rules }

pub returns-clause-call : goal.returns-clause-call
returns-clause-call g c = record { keeps = keeps_join (keeps_join c.outside.ensures.call.keeps c.add_faults.ensures.call.keeps) c.join.ensures.call.keeps; held = search rules }

pub returns-in_err-sound-clause-spends : goal.returns-in_err-sound-clause-spends
returns-in_err-sound-clause-spends g c = Spends-more c.args.engine.now.store c.outside.new.engine.store 1 (3 * length c.args.right.now + 2) (omega arith) c.outside.ensures.spends

pub returns-in_err-second-clause-spends : goal.returns-in_err-second-clause-spends
returns-in_err-second-clause-spends g c =
    let n = length c.args.right.now in
    Spends-then c.args.engine.now.store c.outside.new.engine.store c.add_faults.new.engine.store 1 (3 * n) (3 * n + 2) c.outside.ensures.call.keeps.engine.grows.levels (omega arith) c.outside.ensures.spends c.add_faults.ensures.spends

pub returns-clause-spends : goal.returns-clause-spends
returns-clause-spends g c =
    let s = c.args.engine.now.store in
    let a = c.outside.new.engine.store in
    let b = c.add_faults.new.engine.store in
    let n = length c.args.right.now in
    let first = c.outside.ensures.call.keeps.engine.grows.levels in
    Spends-then s b c.join.new.engine.store (3 * n + 1) 1 (3 * n + 2) (c.add_faults.ensures.call.keeps.engine.grows.levels ∙ first) (omega arith) (Spends-then s a b 1 (3 * n) (3 * n + 1) first (omega arith) c.outside.ensures.spends c.add_faults.ensures.spends) c.join.ensures.spends
