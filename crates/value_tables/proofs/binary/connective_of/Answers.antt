use Rattle.std.proofs.Common.{◌+◌, ◌*◌, length, arith, rules}
use Rattle.value_tables.specs.declared.pick.Test.{Test}
use Rattle.value_tables.specs.Tables.{one_tested, truths, connective, guard_of}
use Rattle.kripke_model.specs.Evaluation.{binary}
use Rattle.value_tables.proofs.RegionLemmas.{keeps_join, Spends-then}
use Rattle.value_tables.proofs.StepLemmas.{all_ok}
use Rattle.value_tables.proofs.OperatorLemmas.{boolean_tested}
use Rattle.value_tables.proofs.BinaryLemmas.{reads_as, connective_is, connective_single}
use Rattle.value_tables.proofs.binary.connective_of.Goals as goal

pub returns-clause-table : goal.returns-clause-table
returns-clause-table g c =
    let t = c.tested_pair.new.engine.store in
    all_ok c.combined.result c.combined.ensures.cells c.combined.ensures.reads c.combined.ensures.single (λ w has h one. record {
      cells = has;
      reads = λ bits r q x y.
          reads_as _ _ (connective c.args.op (guard_of r) (guard_of q)) (binary c.args.op r q) (connective_is c.args.op r q c.requires.op)
          (h bits (guard_of r) (guard_of q)
          (reads_as _ _ (one_tested Test.Boolean r) (truths (guard_of r)) (boolean_tested r) (c.in_ok-pair.ensures.reads_left bits r x))
          (reads_as _ _ (one_tested Test.Boolean q) (truths (guard_of q)) (boolean_tested q) (c.in_ok-pair.ensures.reads_right bits q y)));
      single = λ e. connective_single c.args.op c.requires.op;
    })

pub returns-clause-spends : goal.returns-clause-spends
returns-clause-spends g c =
    Spends-then c.args.engine.now.store c.tested_pair.new.engine.store c.combined.new.engine.store (5 * length c.args.left.now.cells.items + 5 * length c.args.right.now.cells.items + 4) (3 * length c.in_ok-pair.pair.left.items + 3 * length c.in_ok-pair.pair.right.items + 10) _ c.tested_pair.ensures.call.keeps.engine.grows.levels
    (omega (arith, c.in_ok-pair.ensures.few_left, c.in_ok-pair.ensures.few_right)) c.tested_pair.ensures.spends c.combined.ensures.spends

pub returns-clause-call : goal.returns-clause-call
returns-clause-call g c = record { keeps = keeps_join c.tested_pair.ensures.call.keeps c.combined.ensures.call.keeps; held = search rules }
