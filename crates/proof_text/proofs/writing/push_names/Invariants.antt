use Rattle.std.proofs.Common.{◌≡◌, ◌++◌, drop, map}
use Rattle.kripke_model.specs.System.{Variable}
use Rattle.proof_text.specs.SpacedText.{spaced}
use Rattle.proof_text.proofs.writing.push_names.Given as goal

-- what is there, and the names that are left
abbrev pub invariant-loop-var : goal.invariant-loop-var
invariant-loop-var l = l.text ++ spaced (map (λ (v : Variable). v.name) (drop l.var-index l.vars)) ≡ l.initial.text ++ spaced (map (λ (v : Variable). v.name) l.vars)
