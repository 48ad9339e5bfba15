use Rattle.std.proofs.Common.{◌≡◌, ℕ, List, Option, None, Some, IfSome, MatchOption, sym, subst}
use Rattle.bdd_nodes.specs.declared.store.Store.{Store}
use Rattle.bdd_nodes.specs.Store.{Has}
use Rattle.bdd_ops.specs.declared.key.Key.{Key}
use Rattle.bdd_ops.specs.Answer.{IsAnswer, list_at}
use Rattle.bdd_ops.specs.Engine.{lists_of}
use Rattle.bdd_quantify.specs.Product.{IsProduct, key_of}
use Rattle.bdd_quantify.proofs.Products.{product-answer}
use Rattle.bdd_quantify.proofs.entry.remembered.Goals as goal

some_product : (s : Store) (lists : List (List ℕ)) (f g : ℕ) → Has s f → Has s g → (place : Option ℕ) (p : ℕ) → place ≡ Some p → (q : Key) → q ≡ key_of f g p → (o : Option ℕ) → IfSome o (IsAnswer s lists q)
    → IfSome o (λ r. MatchOption place ⊥ (λ x. IsProduct s (list_at lists x) f g r))
some_product s lists f g hf hg place p is q e None h = tt
some_product s lists f g hf hg place p is q e (Some r) h =
    subst (λ o. MatchOption o ⊥ (λ x. IsProduct s (list_at lists x) f g r)) (sym is) (product-answer s lists f g r p hf hg (subst (λ k. IsAnswer s lists k r) e h))

pub returns-in-Some-clause-answer : goal.returns-in-Some-clause-answer
returns-in-Some-clause-answer c =
    let s = c.recall.new.self.store in
    let hf = subst (λ x. Has x c.args.f) (sym c.recall.ensures.store) c.requires.f in
    let hg = subst (λ x. Has x c.args.g) (sym c.recall.ensures.store) c.requires.g in
    some_product s (lists_of c.recall.new.self) c.args.f c.args.g hf hg c.args.place c.in-Some.place c.in-Some.is c.key.result c.key.ensures c.recall.result c.recall.ensures.answer
