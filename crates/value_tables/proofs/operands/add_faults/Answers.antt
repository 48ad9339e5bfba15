use Rattle.std.proofs.Common.{◌*◌, length, ◌∙◌, arith, rules}
use Rattle.value_tables.specs.Cells.{same_reading}
use Rattle.value_tables.specs.Tables.{is_fault}
use Rattle.value_tables.proofs.RegionLemmas.{any_cell-grows, has-grows, AreCells-grows, keeps_join, Spends-then}
use Rattle.value_tables.proofs.WeightLemmas.{Spends-more}
use Rattle.value_tables.proofs.StepLemmas.{if_ok, on_ok}
use Rattle.value_tables.proofs.operands.add_faults.Goals as goal

pub faulty_of-requires : goal.faulty_of-requires
faulty_of-requires g c = has-grows c.args.engine.now.store c.spread.new.engine.store c.spread.ensures.call.keeps.engine.grows c.args.cells.now c.requires.cells

pub returns-clause-cells : goal.returns-clause-cells
returns-clause-cells g c = on_ok c.faulty_of.result (AreCells-grows c.spread.new.engine.store c.faulty_of.new.engine.store c.faulty_of.ensures.call.keeps.engine.grows _ c.in_ok-spread.ensures.cells)

pub returns-clause-shows : goal.returns-clause-shows
returns-clause-shows g c =
    on_ok c.faulty_of.result (λ bits k. any_cell-grows c.spread.new.engine.store c.faulty_of.new.engine.store c.faulty_of.ensures.call.keeps.engine.grows _ c.in_ok-spread.ensures.cells.has bits (same_reading k) ∙ c.in_ok-spread.ensures.shows bits k)

pub returns-clause-few : goal.returns-clause-few
returns-clause-few g c = on_ok c.faulty_of.result c.in_ok-spread.ensures.few

pub returns-clause-region : goal.returns-clause-region
returns-clause-region g c =
    if_ok c.faulty_of.result c.faulty_of.ensures.region (λ r h. record {
      has = h.has;
      value = λ bits. h.value bits ∙ any_cell-grows c.args.engine.now.store c.spread.new.engine.store c.spread.ensures.call.keeps.engine.grows c.args.cells.now c.requires.cells bits is_fault;
    })

pub returns-clause-call : goal.returns-clause-call
returns-clause-call g c = record { keeps = keeps_join c.spread.ensures.call.keeps c.faulty_of.ensures.call.keeps; held = search rules }

pub returns-in_err-spread-clause-spends : goal.returns-in_err-spread-clause-spends
returns-in_err-spread-clause-spends g c = Spends-more c.args.engine.now.store c.spread.new.engine.store (2 * length c.args.cells.now) (3 * length c.args.cells.now) (omega arith) c.spread.ensures.spends

pub returns-clause-spends : goal.returns-clause-spends
returns-clause-spends g c =
    let n = length c.args.cells.now in
    Spends-then c.args.engine.now.store c.spread.new.engine.store c.faulty_of.new.engine.store (2 * n) n (3 * n) c.spread.ensures.call.keeps.engine.grows.levels (omega arith) c.spread.ensures.spends c.faulty_of.ensures.spends
