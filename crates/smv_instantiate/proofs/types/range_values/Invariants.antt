use Rattle.std.proofs.Common.{◌≡◌, map, pos, ◌+ℤ◌}
use Rattle.kripke_model.specs.declared.expressions.Value.TheVariants.{Number}
use Rattle.smv_instances.specs.Instances.{rising}
use Rattle.smv_instantiate.proofs.types.range_values.Given as goal

-- the numbers so far
abbrev pub invariant-loop-steps : goal.invariant-loop-steps
invariant-loop-steps l = l.values.items ≡ map (λ k. Number (l.low +ℤ pos k)) (rising 0 l.steps)
