use Rattle.std.proofs.Common.{◌≡◌, inl, inr, ℕ, List, [], ◌∷◌, Some, slice_get, is_ok, sym, subst}
use Rattle.bdd_ops.specs.Answer.{IsAnswer}
use Rattle.bdd_ops.specs.Engine.{lists_of}
use Rattle.bdd_ops.proofs.AnswerLemmas.{IsAnswer-more_lists}
use Rattle.bdd_ops.proofs.Lists.{lists_in-pushed, once-push}
use Rattle.bdd_ops.proofs.engine.Engine.push_list.Goals as goal

pub invariant_of-self-clause-true_entries : goal.invariant_of-self-clause-true_entries
invariant_of-self-clause-true_entries c =
    let s = c.args.self.now in
    λ k r m. elim (lists_in-pushed (is_ok c.push.result) s.lists c.push.new.self c.in_ok-list.list c.args.levels.now c.push.ensures.items c.in_ok-list.ensures.items) [
      | inl more ↦ subst (λ ls. IsAnswer s.store ls k r) (sym more) (IsAnswer-more_lists s.store (lists_of s) (c.args.levels.now ∷ []) k r (s.true_entries k r m))
      | inr same ↦ subst (λ ls. IsAnswer s.store ls k r) (sym same) (s.true_entries k r m)
    ]

pub invariant_of-self-clause-lists_once : goal.invariant_of-self-clause-lists_once
invariant_of-self-clause-lists_once c =
    let s = c.args.self.now in
    let P : List (List ℕ) → Type 0 = λ ls. (p q : ℕ) (l : List ℕ) → slice_get ls p ≡ Some l → slice_get ls q ≡ Some l → p ≡ q in
    elim (lists_in-pushed (is_ok c.push.result) s.lists c.push.new.self c.in_ok-list.list c.args.levels.now c.push.ensures.items c.in_ok-list.ensures.items) [
      | inl more ↦ subst P (sym more) (once-push (lists_of s) c.args.levels.now c.requires s.lists_once)
      | inr same ↦ subst P (sym same) s.lists_once
    ]
