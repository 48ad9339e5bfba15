use Rattle.std.proofs.Common.{◌≡◌, map, take}
use Rattle.kripke_model.specs.System.{Variable}
use Rattle.proof_text.proofs.NameTables.{texts}
use Rattle.proof_text.proofs.variable_names.VariableNames.of.Given as goal

abbrev pub invariant-loop-var : goal.invariant-loop-var
invariant-loop-var l = texts l.set.keys ≡ take l.var-index (map (λ (v : Variable). v.name) l.vars)
