use Rattle.std.proofs.Common.{Result, Ok, Err, OnOk, OnErr, ◌++◌, Contains, subst}
use Rattle.bdd_nodes.specs.Store.{triples}
use Rattle.bdd_ops.specs.Engine.{fresh_of}
use Rattle.bdd_ops.specs.Cost.{IsBounded}
use Rattle.bdd_ops.proofs.Memo.{same_key}
use Rattle.bdd_ops.proofs.Costs.{IsBounded-cheap, IsBounded-frugal}
use Rattle.bdd_ops.proofs.engine.Engine.operate.Goals as goal

by_outcome : {A E : Type 0} (P Q R : Type 0) (r : Result A E) → (P → R) → (Q → R) → OnOk r P → OnErr r Q → R
by_outcome P Q R (Ok x) f g h k = f h
by_outcome P Q R (Err e) f g h k = g k

pub invariant_of-self-clause-true_entries : goal.invariant_of-self-clause-true_entries
invariant_of-self-clause-true_entries g c = λ k r m. c.args.self.now.true_entries k r (c.begin.ensures.within k r (subst (λ es. Contains (es ++ c.begin.new.self.old) (k, r)) c.begin.ensures.fresh m))

pub returns-clause-cost : goal.returns-clause-cost
returns-clause-cost g c = λ same last.
    let s = c.args.self.now.store in
    let k = c.args.operation in
    let after = c.apply.new.self in
    subst (λ n. IsBounded same_key s.levels (triples s) k n c.args.steps.now c.apply.new.steps) c.begin.ensures.capacity
    (by_outcome _ _ _ c.apply.result (IsBounded-cheap s.levels (triples s) k _ c.begin.new.self.fresh (fresh_of after) _ _ c.begin.ensures.fresh)
    (IsBounded-frugal s.levels (triples s) k _ c.begin.new.self.fresh _ _ _ c.begin.ensures.fresh) (c.apply.ensures.cost same last) (c.apply.ensures.err_cost same last))
