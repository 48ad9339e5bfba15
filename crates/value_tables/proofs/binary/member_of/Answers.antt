use Rattle.std.proofs.Common.{◌+◌, ◌*◌, length, sym, subst, ap, arith, rules}
use Rattle.bdd_nodes.specs.Store.{value_of}
use Rattle.value_tables.specs.declared.pick.Test.{Test}
use Rattle.value_tables.specs.Cells.{Reads}
use Rattle.value_tables.specs.Tables.{value_tested, one_tested, membership}
use Rattle.kripke_model.specs.Evaluation.{binary}
use Rattle.value_tables.proofs.RegionLemmas.{AreCells-grows, keeps_join, Spends-then}
use Rattle.value_tables.proofs.StepLemmas.{all_ok}
use Rattle.value_tables.proofs.BinaryLemmas.{reads_grows, reads_as, member_is, member_single}
use Rattle.value_tables.proofs.binary.member_of.Goals as goal

pub compared-requires-clause-right : goal.compared-requires-clause-right
compared-requires-clause-right g c = AreCells-grows c.args.engine.now.store c.tested.new.engine.store c.tested.ensures.call.keeps.engine.grows c.args.right.now.cells.items c.requires.right

pub returns-clause-table : goal.returns-clause-table
returns-clause-table g c =
    let s = c.args.engine.now.store in
    let t = c.tested.new.engine.store in
    all_ok c.compared.result c.compared.ensures.cells c.compared.ensures.reads c.compared.ensures.single (λ w has h one. record {
      cells = has;
      reads = λ bits r q x y.
          reads_as _ _ (membership (value_tested Test.Any r) q) (binary c.args.op r q) (member_is c.args.op r q c.requires.op)
          (h bits (value_tested Test.Any r) q
          (subst (λ xs. Reads (λ n. value_of t n bits) xs (one_tested Test.Any r)) (sym c.deref.ensures.value) (c.in_ok-one.ensures.reads bits r x.reads x.proper x.few))
          (reads_grows s t c.tested.ensures.call.keeps.engine.grows c.args.right.now.cells.items c.requires.right.has bits q y.reads));
      single = λ e. member_single c.args.op c.requires.op;
    })

pub returns-clause-spends : goal.returns-clause-spends
returns-clause-spends g c =
    let l = ap length c.deref.ensures.value in
    Spends-then c.args.engine.now.store c.tested.new.engine.store c.compared.new.engine.store (5 * length c.args.left.now.cells.items + 2) (5 * length c.deref.result.now + 3 * length c.args.right.now.cells.items + 8) _ c.tested.ensures.call.keeps.engine.grows.levels
    (omega (arith, l, c.in_ok-one.ensures.few)) c.tested.ensures.spends c.compared.ensures.spends

pub returns-clause-call : goal.returns-clause-call
returns-clause-call g c = record { keeps = keeps_join c.tested.ensures.call.keeps c.compared.ensures.call.keeps; held = search rules }
