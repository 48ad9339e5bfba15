use Rattle.std.proofs.Common.{◌&&◌, not, ltb, sym, ap, ◌∙◌, arith}
use Rattle.bdd_nodes.specs.Store.{value_of}
use Rattle.bdd_nodes.proofs.Tables.{value_of-false}
use Rattle.value_tables.specs.Tables.{count_on}
use Rattle.value_tables.proofs.operands.many_in.Goals as goal

pub returns-then-table-clause-region : goal.returns-then-table-clause-region
returns-then-table-clause-region g c =
    let s = c.args.engine.now.store in
    record {
      has = omega arith;
      value = λ bits. value_of-false s.nodes.keys bits ∙ sym (ap (λ b. not b && ltb 1 (count_on (λ q. value_of s q bits) c.args.table.now.cells.items)) c.if-table.true);
    }
