use Rattle.std.proofs.Common.{◌≡◌, map, pos}
use Rattle.kripke_model.specs.declared.expressions.Value.TheVariants.{Number}
use Rattle.smv_instances.specs.Instances.{rising}
use Rattle.smv_instantiate.proofs.processes.selector.Given as goal

-- the processes so far
abbrev pub invariant-loop-process : goal.invariant-loop-process
invariant-loop-process l = l.values.items ≡ map (λ k. Number (pos k)) (rising 0 l.process)
