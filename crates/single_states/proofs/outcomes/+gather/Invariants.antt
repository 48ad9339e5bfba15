use Rattle.std.proofs.Common.{◌≡◌, ◌+◌, ◌*◌}
use Rattle.kripke_model.specs.Reading.{term_of, terms_in, arms_in}
use Rattle.single_states.proofs.OutcomeLemmas.{AddedSoFar}
use Rattle.single_states.proofs.ValuationLemmas.{PassedOver, weight, weight_of_elements, weight_of_arms}
use Rattle.single_states.proofs.outcomes.+gather.Given as goal

abbrev pub invariant-gather_elements-loop-e : goal.invariant-gather_elements-loop-e
invariant-gather_elements-loop-e l = AddedSoFar l.model l.s l.t l.elements l.fn.values.items l.values.items l.e-index

abbrev pub invariant-gather_chosen-loop-arm : goal.invariant-gather_chosen-loop-arm
invariant-gather_chosen-loop-arm l = PassedOver l.model l.s l.t l.arms l.arm-index × (l.values.items ≡ l.fn.values.items)

abbrev pub decreases-gather : goal.decreases-gather
decreases-gather l = 2 * weight (term_of l.expr.now)

abbrev pub decreases-gather_elements : goal.decreases-gather_elements
decreases-gather_elements l = 2 * weight_of_elements (terms_in l.elements.now) + 1

abbrev pub decreases-gather_chosen : goal.decreases-gather_chosen
decreases-gather_chosen l = 2 * weight_of_arms (arms_in l.arms.now) + 1
