use Rattle.std.proofs.Common.{◌+◌, ◌*◌, ◌^◌, ◌≤◌, List, length, sym, subst, ap, arith, rules}
use Rattle.bdd_nodes.specs.Store.{value_of}
use Rattle.value_tables.specs.declared.pick.Test.{Test}
use Rattle.value_tables.specs.Cells.{Reads}
use Rattle.value_tables.specs.Tables.{alone, value_tested, one_tested, paired}
use Rattle.kripke_model.specs.Evaluation.{binary}
use Rattle.value_tables.specs.declared.cells.Cell.{Cell}
use Rattle.value_tables.specs.Weights.{AreApart}
use Rattle.value_tables.proofs.RegionLemmas.{keeps_join, Spends-then}
use Rattle.value_tables.proofs.ReadingCounts.{amount_single, reads-apart}
use Rattle.value_tables.proofs.StepLemmas.{all_ok}
use Rattle.value_tables.proofs.BinaryLemmas.{single_alone, reads_as, arithmetic_is, arithmetic_single}
use Rattle.value_tables.proofs.binary.outcome_of.Goals as goal

pub returns-clause-table : goal.returns-clause-table
returns-clause-table g c =
    let t = c.tested_pair.new.engine.store in
    all_ok c.calculated.result c.calculated.ensures.cells c.calculated.ensures.reads c.calculated.ensures.single (λ w has h one. record {
      cells = has;
      reads = λ bits r q x y.
          reads_as _ _ (alone (paired c.args.op (value_tested Test.Number r) (value_tested Test.Number q))) (binary c.args.op r q) (arithmetic_is c.args.op r q c.requires.op)
          (h bits (value_tested Test.Number r) (value_tested Test.Number q)
          (subst (λ xs. Reads (λ n. value_of t n bits) xs (one_tested Test.Number r)) (sym c.deref.ensures.value) (c.in_ok-pair.ensures.reads_left bits r x))
          (subst (λ xs. Reads (λ n. value_of t n bits) xs (one_tested Test.Number q)) (sym c.deref-2.ensures.value) (c.in_ok-pair.ensures.reads_right bits q y)));
      single = λ e. arithmetic_single c.args.op c.requires.op;
    })

pub returns-clause-spends : goal.returns-clause-spends
returns-clause-spends g c =
    let s = c.args.engine.now.store in
    let t = c.tested_pair.new.engine.store in
    let pair = c.in_ok-pair.pair in
    λ left right.
    let apart_left : AreApart t c.deref.result.now = subst (AreApart t) (sym c.deref.ensures.value) (reads-apart t pair.left.items c.in_ok-pair.ensures.left (λ bits. let o = left.result bits in (one_tested Test.Number o.0, c.in_ok-pair.ensures.reads_left bits o.0 o.1, amount_single _ (single_alone (value_tested Test.Number o.0))))) in
    let apart_right : AreApart t c.deref-2.result.now = subst (AreApart t) (sym c.deref-2.ensures.value) (reads-apart t pair.right.items c.in_ok-pair.ensures.right (λ bits. let o = right.result bits in (one_tested Test.Number o.0, c.in_ok-pair.ensures.reads_right bits o.0 o.1, amount_single _ (single_alone (value_tested Test.Number o.0))))) in
    let l : length c.deref.result.now ≤ length c.args.left.now.cells.items + 1 = subst (λ (xs : List Cell). length xs ≤ length c.args.left.now.cells.items + 1) (sym c.deref.ensures.value) c.in_ok-pair.ensures.few_left in
    let r : length c.deref-2.result.now ≤ length c.args.right.now.cells.items + 1 = subst (λ (xs : List Cell). length xs ≤ length c.args.right.now.cells.items + 1) (sym c.deref-2.ensures.value) c.in_ok-pair.ensures.few_right in
    let same = ap (λ n. 2 ^ n) c.tested_pair.ensures.call.keeps.engine.grows.levels in
    Spends-then s t c.calculated.new.engine.store (5 * length c.args.left.now.cells.items + 5 * length c.args.right.now.cells.items + 4) _ _ c.tested_pair.ensures.call.keeps.engine.grows.levels
    (omega (arith, l, r, same)) c.tested_pair.ensures.spends (c.calculated.ensures.spends apart_left apart_right)

pub returns-clause-call : goal.returns-clause-call
returns-clause-call g c = record { keeps = keeps_join c.tested_pair.ensures.call.keeps c.calculated.ensures.call.keeps; held = search rules }
