use Rattle.std.proofs.Common.{sym, subst}
use Rattle.bdd_ops.specs.Answer.{IsAnswer}
use Rattle.bdd_ops.specs.Engine.{lists_of}
use Rattle.bdd_ops.specs.Noted.{IsNoted}
use Rattle.bdd_ops.proofs.AnswerLemmas.{result-answer}
use Rattle.bdd_ops.proofs.engine.Engine.note.Goals as goal

pub add-requires-clause-answer : goal.add-requires-clause-answer
add-requires-clause-answer c = subst (λ x. IsAnswer c.args.self.now.store (lists_of c.args.self.now) x c.args.answer) (sym c.key.ensures) (result-answer c.args.self.now.store (lists_of c.args.self.now) c.args.operation c.args.answer c.requires.answer)

pub returns : goal.returns
returns c = subst (λ x. IsNoted _ _ c.args.self.now c.add.new.self x c.args.answer) c.key.ensures c.add.ensures
