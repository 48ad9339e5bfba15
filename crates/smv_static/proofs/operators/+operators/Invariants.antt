use Rattle.std.proofs.Common.{◌≡◌, drop}
use Rattle.kripke_model.specs.Reading.{terms_in, arms_in}
use Rattle.kripke_model.specs.Term.{some_has_path_operator, arm_has_path_operator}
use Rattle.smv_static.proofs.operators.+operators.Given as goal

-- the answer is that of the arms that are left
abbrev pub invariant-arm_uses_path_operator-loop-arm : goal.invariant-arm_uses_path_operator-loop-arm
invariant-arm_uses_path_operator-loop-arm l = arm_has_path_operator (arms_in l.arms) ≡ arm_has_path_operator (arms_in (drop l.arm-index l.arms))

-- the answer is that of the elements that are left
abbrev pub invariant-element_uses_path_operator-loop-e : goal.invariant-element_uses_path_operator-loop-e
invariant-element_uses_path_operator-loop-e l = some_has_path_operator (terms_in l.elements) ≡ some_has_path_operator (terms_in (drop l.e-index l.elements))
