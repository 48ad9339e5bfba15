use Rattle.std.proofs.Common.{arith}
use Rattle.bdd_ops.proofs.Sizes.{steps-and}
use Rattle.bdd_ops.specs.declared.operation.Operation.TheVariants.{And}
use Rattle.bdd_ops.proofs.Apply.{region-before, count-whole}
use Rattle.bdd_ops.proofs.engine.Engine.and.Goals as goal

pub returns-clause-region : goal.returns-clause-region
returns-clause-region g c = region-before c.args.self.now.store c.operate.new.self.store c.operate.ensures.call.keeps.grows (And c.args.f c.args.g) (omega arith) c.operate.result c.operate.ensures.answer

pub returns-clause-count : goal.returns-clause-count
returns-clause-count g c = count-whole _ _ _ _ c.operate.ensures.count

pub returns-clause-cost : goal.returns-clause-cost
returns-clause-cost g c = λ same last room.
    let s = c.args.self.now.store in
    steps-and s.levels s.nodes.keys s.good c.args.f c.args.g c.args.self.now.memo.cap c.requires.f c.requires.g _ _ room (c.operate.ensures.cost same last)

pub returns-clause-makes : goal.returns-clause-makes
returns-clause-makes g c = λ same last room.
    let s = c.args.self.now.store in
    let steps = steps-and s.levels s.nodes.keys s.good c.args.f c.args.g c.args.self.now.memo.cap c.requires.f c.requires.g _ _ room (c.operate.ensures.cost same last) in
    omega (arith, steps, c.operate.ensures.makes)
