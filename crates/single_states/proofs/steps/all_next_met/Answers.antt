use Rattle.std.proofs.Common.{◌≡◌, IsTrue, subst, ◌∙◌, below_more}
use Rattle.std.proofs.lemmas.List.{get_or_default}
use Rattle.kripke_model.specs.declared.models.Part.{Part}
use Rattle.kripke_model.specs.System.{Assignment, value_in}
use Rattle.kripke_model.specs.Evaluation.{runs}
use Rattle.kripke_model.specs.Step.{IsValueOf}
use Rattle.single_states.proofs.steps.all_next_met.Goals as goal

pub loop-a-preserved : goal.loop-a-preserved
loop-a-preserved c =
    let P : Assignment → Type 0 = λ a. a.part ≡ Part.Next → IsTrue (runs c.args.model.now c.args.s.now a.process) → IsValueOf c.args.model.now a.right c.args.s.now c.args.t.now (value_in c.args.t.now a.var) in
    below_more _ _ c.loop-a.invariant
    (λ d. subst P (c.a-item.is ∙ get_or_default _ c.loop-a.a-index c.a-item.result d c.loop-a-test.true) (c.next_met.ensures.0 c.if-not-next_met.false))
