use Rattle.std.proofs.Common.{◌+◌, ◌*◌, ◌≤◌, List, length, sym, subst, arith, rules}
use Rattle.std.proofs.lemmas.Nat.{pow_pos}
use Rattle.bdd_nodes.specs.Store.{levels_of, value_of}
use Rattle.kripke_model.specs.Evaluation.{◌>>=◌, number, binary}
use Rattle.value_tables.specs.declared.cells.Cell.{Cell}
use Rattle.value_tables.specs.declared.pick.Test.{Test}
use Rattle.value_tables.specs.Cells.{Reads}
use Rattle.value_tables.specs.Tables.{one_tested}
use Rattle.value_tables.specs.Orders.{comparison}
use Rattle.value_tables.proofs.RegionLemmas.{keeps_join, Spends-then}
use Rattle.value_tables.proofs.StepLemmas.{all_ok}
use Rattle.value_tables.proofs.BinaryLemmas.{reads_as, number_tested, comparison_is, comparison_single}
use Rattle.value_tables.proofs.binary.comparison_of.Goals as goal

pub returns-clause-table : goal.returns-clause-table
returns-clause-table g c =
    let t = c.tested_pair.new.engine.store in
    all_ok c.ordered.result c.ordered.ensures.cells c.ordered.ensures.reads c.ordered.ensures.single (λ w has h one. record {
      cells = has;
      reads = λ bits r q x y.
          reads_as _ _ (comparison c.args.op (r >>= number) (q >>= number)) (binary c.args.op r q) (comparison_is c.args.op r q c.requires.op)
          (h bits (r >>= number) (q >>= number)
          (reads_as _ _ _ _ (number_tested r) (subst (λ xs. Reads (λ n. value_of t n bits) xs (one_tested Test.Number r)) (sym c.deref.ensures.value) (c.in_ok-pair.ensures.reads_left bits r x)))
          (reads_as _ _ _ _ (number_tested q) (subst (λ xs. Reads (λ n. value_of t n bits) xs (one_tested Test.Number q)) (sym c.deref-2.ensures.value) (c.in_ok-pair.ensures.reads_right bits q y))));
      single = λ e. comparison_single c.args.op c.requires.op;
    })

pub returns-clause-call : goal.returns-clause-call
returns-clause-call g c = record { keeps = keeps_join c.tested_pair.ensures.call.keeps c.ordered.ensures.call.keeps; held = search rules }

pub returns-clause-spends : goal.returns-clause-spends
returns-clause-spends g c =
    let s = c.args.engine.now.store in
    let l : length c.deref.result.now ≤ length c.args.left.now.cells.items + 1 = subst (λ (xs : List Cell). length xs ≤ length c.args.left.now.cells.items + 1) (sym c.deref.ensures.value) c.in_ok-pair.ensures.few_left in
    let r : length c.deref-2.result.now ≤ length c.args.right.now.cells.items + 1 = subst (λ (xs : List Cell). length xs ≤ length c.args.right.now.cells.items + 1) (sym c.deref-2.ensures.value) c.in_ok-pair.ensures.few_right in
    Spends-then s c.tested_pair.new.engine.store c.ordered.new.engine.store (5 * length c.args.left.now.cells.items + 5 * length c.args.right.now.cells.items + 4) _ _ c.tested_pair.ensures.call.keeps.engine.grows.levels
    (omega (arith, l, r, pow_pos (levels_of s))) c.tested_pair.ensures.spends c.ordered.ensures.spends
