use Rattle.std.proofs.Common.{◌≡◌, map, take}
use Rattle.smv_instantiate.proofs.names.VariableNames.of.Given as goal

-- the names of the variables so far
abbrev pub invariant-loop-variable : goal.invariant-loop-variable
invariant-loop-variable l = l.names ≡ map (λ v. v.name) (take l.variable-index l.variables)
