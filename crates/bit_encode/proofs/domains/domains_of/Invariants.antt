use Rattle.std.proofs.Common.{◌≡◌, take, map}
use Rattle.kripke_model.specs.System.{Variable}
use Rattle.bit_encode.proofs.domains.domains_of.Given as goal

abbrev pub invariant-loop-var : goal.invariant-loop-var
invariant-loop-var l = l.domains.items ≡ map (λ (x : Variable). x.values) (take l.var-index l.vars)
