use Rattle.std.proofs.Common.{◌≡◌, ◌++◌}
use Rattle.smv_instantiate.specs.Types.{variables_named}
use Rattle.smv_instantiate.proofs.variables.push_named.Given as goal

-- a variable of each name so far
abbrev pub invariant-loop-name : goal.invariant-loop-name
invariant-loop-name l = l.variables.items ≡ l.initial.variables.items ++ variables_named l.yielded l.values l.line
