use Rattle.std.proofs.Common.{◌≡◌}
use Rattle.proof_form.specs.Form.{fair_sets}
use Rattle.proof_cases.proofs.wrong.add_reaches.Given as goal

-- an empty list adds no set
abbrev pub invariant-loop : goal.invariant-loop
invariant-loop l = fair_sets l.fair ≡ fair_sets l.initial.fair
