use Rattle.std.proofs.Common.{◌∙◌, ap, ◌++◌, ◌∷◌, [], pos}
use Rattle.kripke_model.specs.declared.expressions.Value.TheVariants.{Number}
use Rattle.smv_instantiate.proofs.ProcessSteps.{rising_added}
use Rattle.smv_instantiate.proofs.processes.selector.Goals as goal

pub loop-process-preserved : goal.loop-process-preserved
loop-process-preserved c = c.in_ok-push.ensures.items ∙ ap (λ v. c.loop-process.values.items ++ (v ∷ [])) c.number_value.ensures ∙ ap (λ vs. vs ++ (Number (pos c.loop-process.process) ∷ [])) c.loop-process.invariant ∙ rising_added (λ k. Number (pos k)) c.loop-process.process
