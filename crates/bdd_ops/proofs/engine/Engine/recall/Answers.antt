use Rattle.bdd_ops.specs.Answer.{IsAnswer}
use Rattle.bdd_ops.specs.Engine.{lists_of, entries_of}
use Rattle.bdd_ops.proofs.Memo.{entry-found}
use Rattle.bdd_ops.proofs.engine.Engine.recall.Goals as goal

pub returns-clause-answer : goal.returns-clause-answer
returns-clause-answer c = entry-found (IsAnswer c.args.self.now.store (lists_of c.args.self.now)) (entries_of c.args.self.now) c.args.key c.find.result c.find.ensures c.args.self.now.true_entries
