use Rattle.std.proofs.Common.{◌≡◌, get_or, true, false, subst, sym, ◌∙◌, below_more, arith, ap, List, length}
use Rattle.std.proofs.lemmas.List.{get_or_default}
use Rattle.kripke_model.specs.declared.models.Part.{Part}
use Rattle.kripke_model.specs.System.{Assignment, value_in}
use Rattle.kripke_model.specs.Step.{IsDriven}
use Rattle.single_states.proofs.steps.all_kept.Goals as goal

pub loop-a-preserved : goal.loop-a-preserved
loop-a-preserved c =
    let P : Assignment → Type 0 = λ a. a.part ≡ Part.Next → (IsDriven c.args.model.now c.args.s.now a.var → ⊥) → value_in c.args.t.now a.var ≡ value_in c.args.s.now a.var in
    below_more _ _ c.loop-a.invariant
    (λ d. subst P (c.a-item.is ∙ get_or_default _ c.loop-a.a-index c.a-item.result d c.loop-a-test.true) (c.is_kept.ensures.0 c.if-not-is_kept.false))

pub returns-then-not-is_kept : goal.returns-then-not-is_kept
returns-then-not-is_kept c =
    let P : Assignment → Type 0 = λ a. a.part ≡ Part.Next → (IsDriven c.args.model.now c.args.s.now a.var → ⊥) → value_in c.args.t.now a.var ≡ value_in c.args.s.now a.var in
    let assigns = c.assigns-assigns.ensures.items in
    let here : c.a-item.result ≡ get_or c.args.model.now.assigns c.loop-a.a-index c.a-item.result = c.a-item.is ∙ ap (λ (xs : List Assignment). get_or xs c.loop-a.a-index c.a-item.result) assigns in (
      (λ (e : false ≡ true). absurd cc),
      (λ h. sym c.if-not-is_kept.true ∙ c.is_kept.ensures.1 (subst P (sym here) (h c.loop-a.a-index c.a-item.result (omega (arith, ap length assigns))))),
    )
