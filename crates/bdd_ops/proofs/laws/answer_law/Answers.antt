use Rattle.bdd_ops.specs.Engine.{lists_of}
use Rattle.bdd_ops.proofs.Depth.{IsAnswer-law}
use Rattle.bdd_ops.proofs.laws.answer_law.Goals as goal

pub returns : goal.returns
returns c =
    let q = c.requires in
    IsAnswer-law c.args.engine.now.store (lists_of c.args.engine.now) c.args.key c.args.answer q.operands q.listed q.has q.value q.moved
