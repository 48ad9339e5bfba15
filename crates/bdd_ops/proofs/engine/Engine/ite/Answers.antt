use Rattle.std.proofs.Common.{arith}
use Rattle.bdd_ops.specs.declared.operation.Operation.TheVariants.{Ite}
use Rattle.bdd_ops.proofs.Apply.{region-before, count-whole}
use Rattle.bdd_ops.proofs.engine.Engine.ite.Goals as goal

pub returns-clause-region : goal.returns-clause-region
returns-clause-region g c = region-before c.args.self.now.store c.operate.new.self.store c.operate.ensures.call.keeps.grows (Ite c.args.f c.args.g c.args.h) (omega arith) c.operate.result c.operate.ensures.answer

pub returns-clause-count : goal.returns-clause-count
returns-clause-count g c = count-whole _ _ _ _ c.operate.ensures.count
