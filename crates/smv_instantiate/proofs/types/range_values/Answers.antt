use Rattle.std.proofs.Common.{◌≡◌, ◌∙◌, ap, subst, sym, ◌+◌, ◌++◌, ◌∷◌, [], ◌+ℤ◌, pos, map, ℤ}
use Rattle.std.proofs.lemmas.Int.{to_z-of_z}
use Rattle.std.specs.Int.{w32}
use Rattle.kripke_model.specs.declared.expressions.Value.TheVariants.{Number}
use Rattle.smv_instances.specs.Instances.{rising}
use Rattle.smv_instantiate.proofs.ProcessSteps.{rising_added}
use Rattle.smv_instantiate.proofs.types.range_values.Goals as goal

pub loop-steps-preserved : goal.loop-steps-preserved
loop-steps-preserved c =
    let same = to_z-of_z w32 c.args.low c.ranges.low in
    let steps = c.loop-steps.steps in
    let known : c.loop-steps.values.items ≡ map (λ k. Number (c.args.low +ℤ pos k)) (rising 0 steps) = subst (λ (low : ℤ). c.loop-steps.values.items ≡ map (λ k. Number (low +ℤ pos k)) (rising 0 steps)) same c.loop-steps.invariant in
    subst (λ (low : ℤ). c.push.new.self.items ≡ map (λ k. Number (low +ℤ pos k)) (rising 0 (steps + 1))) (sym same)
    (c.in_ok-push.ensures.items ∙ ap (λ v. c.loop-steps.values.items ++ (v ∷ [])) (c.value_above.ensures ∙ ap (λ (low : ℤ). Number (low +ℤ pos steps)) same)
    ∙ ap (λ vs. vs ++ (Number (c.args.low +ℤ pos steps) ∷ [])) known ∙ rising_added (λ k. Number (c.args.low +ℤ pos k)) steps)
