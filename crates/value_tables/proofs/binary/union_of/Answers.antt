use Rattle.std.proofs.Common.{◌+◌, ◌*◌, length, sym, subst, ap, arith}
use Rattle.std.proofs.lemmas.Bool.{false≢true}
use Rattle.bdd_nodes.specs.Store.{value_of}
use Rattle.value_tables.specs.Cells.{Reads}
use Rattle.value_tables.proofs.WeightLemmas.{Spends-more}
use Rattle.value_tables.proofs.BinaryLemmas.{union_reads}
use Rattle.value_tables.proofs.binary.union_of.Goals as goal

pub returns-clause-table : goal.returns-clause-table
returns-clause-table g c = record {
  cells = c.in_ok-cells.ensures.cells;
  reads = λ bits r q x y.
      union_reads _ _ c.args.op r q c.requires.op
      (c.in_ok-cells.ensures.reads bits r q
      (subst (λ xs. Reads (λ n. value_of c.args.engine.now.store n bits) xs r) (sym c.deref.ensures.value) x.reads)
      (subst (λ xs. Reads (λ n. value_of c.args.engine.now.store n bits) xs q) (sym c.deref-2.ensures.value) y.reads));
  single = λ e r q. absurd (false≢true e);
}

pub returns-clause-spends : goal.returns-clause-spends
returns-clause-spends g c =
    let l = ap length c.deref.ensures.value in
    let r = ap length c.deref-2.ensures.value in
    Spends-more c.args.engine.now.store c.united.new.engine.store (5 * length c.deref.result.now + 5 * length c.deref-2.result.now + 3) _ (omega (arith, l, r)) c.united.ensures.spends

pub returns-in_err-cells-clause-spends : goal.returns-in_err-cells-clause-spends
returns-in_err-cells-clause-spends g c =
    let l = ap length c.deref.ensures.value in
    let r = ap length c.deref-2.ensures.value in
    Spends-more c.args.engine.now.store c.united.new.engine.store (5 * length c.deref.result.now + 5 * length c.deref-2.result.now + 3) _ (omega (arith, l, r)) c.united.ensures.spends
