use Rattle.std.proofs.Common.{arith}
use Rattle.bdd_ops.specs.Engine.{store_of}
use Rattle.bdd_quantify.proofs.Literals.{literal_at}
use Rattle.bdd_tests.proofs.quantify_tests.renamed.Goals as goal

pub rename-requires-clause-parity : goal.rename-requires-clause-parity
rename-requires-clause-parity g c =
    literal_at (store_of c.make.new.self) c.store-3.result.now c.store-2.result.now c.in_ok-a.a c.store-3.ensures c.store-2.ensures
    (c.in_ok-a.ensures.node.node (λ e. absurd (omega arith))) c.expansion.ensures c.constants-2.ensures.always_false c.constants-2.ensures.always_true
