use Rattle.std.proofs.Common.{◌≡◌, ◌++◌, drop}
use Rattle.kripke_model.specs.Reading.{terms_in, arms_in}
use Rattle.smv_static.specs.Targets.{next_variables_in_elements, next_variables_in_arms}
use Rattle.smv_static.proofs.targets.+next_variables.Given as goal

-- with those of the elements that are left it has all of them
abbrev pub invariant-push_next_element_variables-loop-e : goal.invariant-push_next_element_variables-loop-e
invariant-push_next_element_variables-loop-e l = l.row ++ next_variables_in_elements (terms_in (drop l.e-index l.elements)) ≡ l.initial.row ++ next_variables_in_elements (terms_in l.elements)

-- with those of the arms that are left it has all of them
abbrev pub invariant-push_next_arm_variables-loop-arm : goal.invariant-push_next_arm_variables-loop-arm
invariant-push_next_arm_variables-loop-arm l = l.row ++ next_variables_in_arms (arms_in (drop l.arm-index l.arms)) ≡ l.initial.row ++ next_variables_in_arms (arms_in l.arms)
