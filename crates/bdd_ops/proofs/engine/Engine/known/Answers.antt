use Rattle.std.proofs.Common.{◌≡◌, ℕ, Option, None, Some, IfSome, List, subst}
use Rattle.bdd_nodes.specs.declared.store.Store.{Store}
use Rattle.bdd_ops.specs.declared.key.Key.{Key}
use Rattle.bdd_ops.specs.declared.operation.Operation.{Operation}
use Rattle.bdd_ops.specs.Operation.{key_of}
use Rattle.bdd_ops.specs.Result.{IsResult}
use Rattle.bdd_ops.specs.Answer.{IsAnswer}
use Rattle.bdd_ops.specs.Engine.{lists_of}
use Rattle.bdd_ops.proofs.AnswerLemmas.{answer-result}
use Rattle.bdd_ops.proofs.engine.Engine.known.Goals as goal

some_result : (s : Store) (lists : List (List ℕ)) (k : Operation) (q : Key) → q ≡ key_of k → (o : Option ℕ) → IfSome o (IsAnswer s lists q) → IfSome o (IsResult s k)
some_result s lists k q e None h = tt
some_result s lists k q e (Some r) h = answer-result s lists k r (subst (λ x. IsAnswer s lists x r) e h)

pub returns-clause-answer : goal.returns-clause-answer
returns-clause-answer c = some_result c.recall.new.self.store (lists_of c.recall.new.self) c.args.operation c.key.result c.key.ensures c.recall.result c.recall.ensures.answer
