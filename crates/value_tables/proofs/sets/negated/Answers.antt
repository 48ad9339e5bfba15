use Rattle.std.proofs.Common.{◌∙◌, ◌&&◌, ◌||◌, ap, ◌+◌, ◌*◌, length, arith, rules}
use Rattle.bdd_nodes.specs.Store.{value_of}
use Rattle.bdd_nodes.proofs.Tables.{value_of-true}
use Rattle.value_tables.specs.declared.pick.Pick.{Pick}
use Rattle.value_tables.specs.Cells.{shows, any_cell}
use Rattle.value_tables.specs.Pick.{becomes}
use Rattle.value_tables.proofs.WeightLemmas.{Spends-more}
use Rattle.value_tables.proofs.RegionLemmas.{Spends-then, keeps_join}
use Rattle.value_tables.proofs.OperatorLemmas.{negated_shows}
use Rattle.value_tables.proofs.sets.negated.Goals as goal

pub returns-clause-reads : goal.returns-clause-reads
returns-clause-reads g c =
    let t = c.tested.new.engine.store in
    λ bits r h proper flag. record {
      each = λ k. c.in_ok-spread.ensures.shows bits k
          ∙ (λ i. shows (λ n. value_of t n bits) (c.new-cells.ensures.items i) k || (any_cell (λ n. value_of t n bits) (becomes Pick.Negated k) (c.deref.ensures.value i) && value_of-true t.nodes.keys bits i))
          ∙ negated_shows (λ n. value_of t n bits) _ r (c.in_ok-boolean.ensures.reads bits r h proper flag) k;
    }

pub returns-clause-spends : goal.returns-clause-spends
returns-clause-spends g c =
    let l = ap length c.deref.ensures.value in
    Spends-then c.args.engine.now.store c.tested.new.engine.store c.spread.new.engine.store (5 * length c.args.operand.now.cells.items + 2) (2 * length c.deref.result.now) _ c.tested.ensures.call.keeps.engine.grows.levels
    (omega (arith, l, c.in_ok-boolean.ensures.few)) c.tested.ensures.spends c.spread.ensures.spends

pub returns-in_err-spread-clause-spends : goal.returns-in_err-spread-clause-spends
returns-in_err-spread-clause-spends g c =
    let l = ap length c.deref.ensures.value in
    Spends-then c.args.engine.now.store c.tested.new.engine.store c.spread.new.engine.store (5 * length c.args.operand.now.cells.items + 2) (2 * length c.deref.result.now) _ c.tested.ensures.call.keeps.engine.grows.levels
    (omega (arith, l, c.in_ok-boolean.ensures.few)) c.tested.ensures.spends c.spread.ensures.spends

pub returns-in_err-boolean-clause-spends : goal.returns-in_err-boolean-clause-spends
returns-in_err-boolean-clause-spends g c =
    let n = length c.args.operand.now.cells.items in
    Spends-more c.args.engine.now.store c.tested.new.engine.store (5 * n + 2) (7 * n + 4) (omega arith) c.tested.ensures.spends

pub returns-in_err-spread-clause-call : goal.returns-in_err-spread-clause-call
returns-in_err-spread-clause-call g c = record { keeps = keeps_join c.tested.ensures.call.keeps c.spread.ensures.call.keeps; held = search rules }

pub returns-clause-call : goal.returns-clause-call
returns-clause-call g c = record { keeps = keeps_join c.tested.ensures.call.keeps c.spread.ensures.call.keeps; held = search rules }
