use Rattle.std.proofs.Common.{◌≡◌, true, false, subst, sym, ◌∙◌, below_more}
use Rattle.std.proofs.lemmas.List.{get_or_default}
use Rattle.std.specs.Prelude.{Any}
use Rattle.kripke_model.specs.System.{Condition}
use Rattle.kripke_model.specs.Evaluation.{Holds}
use Rattle.single_states.proofs.steps.all_visited.Goals as goal

pub loop-item-preserved : goal.loop-item-preserved
loop-item-preserved c =
    let P : Condition → Type 0 = λ a. Any (λ s. Holds c.args.model.now a.expr s s) c.args.states.now in
    below_more _ _ c.loop-item.invariant
    (λ d. subst P (c.item-item.is ∙ get_or_default _ c.loop-item.item-index c.item-item.result d c.loop-item-test.true) (c.is_visited.ensures.0 c.if-not-is_visited.false))

pub returns-then-not-is_visited : goal.returns-then-not-is_visited
returns-then-not-is_visited c =
    let P : Condition → Type 0 = λ a. Any (λ s. Holds c.args.model.now a.expr s s) c.args.states.now in (
      (λ (e : false ≡ true). absurd cc),
      (λ h. sym c.if-not-is_visited.true ∙ c.is_visited.ensures.1 (subst P (sym c.item-item.is) (h c.loop-item.item-index c.item-item.result c.loop-item-test.true))),
    )
