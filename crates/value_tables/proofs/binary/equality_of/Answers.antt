use Rattle.std.proofs.Common.{sym, subst, ◌+◌, ◌*◌, length, ap, arith, rules}
use Rattle.bdd_nodes.specs.Store.{value_of}
use Rattle.value_tables.specs.declared.pick.Test.{Test}
use Rattle.value_tables.specs.Cells.{Reads}
use Rattle.value_tables.specs.Tables.{alone, value_tested, one_tested, membership}
use Rattle.kripke_model.specs.Evaluation.{binary}
use Rattle.value_tables.proofs.RegionLemmas.{keeps_join, Spends-then}
use Rattle.value_tables.proofs.StepLemmas.{all_ok}
use Rattle.value_tables.proofs.BinaryLemmas.{reads_as, equality_is, equality_single}
use Rattle.value_tables.proofs.binary.equality_of.Goals as goal

pub returns-clause-table : goal.returns-clause-table
returns-clause-table g c =
    let t = c.tested_pair.new.engine.store in
    all_ok c.compared.result c.compared.ensures.cells c.compared.ensures.reads c.compared.ensures.single (λ w has h one. record {
      cells = has;
      reads = λ bits r q x y.
          reads_as _ _ (membership (value_tested Test.Any r) (alone (value_tested Test.Any q))) (binary c.args.op r q) (equality_is c.args.op r q c.requires.op)
          (h bits (value_tested Test.Any r) (one_tested Test.Any q)
          (subst (λ xs. Reads (λ n. value_of t n bits) xs (one_tested Test.Any r)) (sym c.deref.ensures.value) (c.in_ok-pair.ensures.reads_left bits r x))
          (c.in_ok-pair.ensures.reads_right bits q y));
      single = λ e. equality_single c.args.op c.requires.op;
    })

pub returns-clause-spends : goal.returns-clause-spends
returns-clause-spends g c =
    let l = ap length c.deref.ensures.value in
    Spends-then c.args.engine.now.store c.tested_pair.new.engine.store c.compared.new.engine.store (5 * length c.args.left.now.cells.items + 5 * length c.args.right.now.cells.items + 4) (5 * length c.deref.result.now + 3 * length c.in_ok-pair.pair.right.items + 8) _ c.tested_pair.ensures.call.keeps.engine.grows.levels
    (omega (arith, l, c.in_ok-pair.ensures.few_left, c.in_ok-pair.ensures.few_right)) c.tested_pair.ensures.spends c.compared.ensures.spends

pub returns-clause-call : goal.returns-clause-call
returns-clause-call g c = record { keeps = keeps_join c.tested_pair.ensures.call.keeps c.compared.ensures.call.keeps; held = search rules }
