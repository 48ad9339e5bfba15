use Rattle.single_states.proofs.ValuationLemmas.{SoFar, PassedOver, FoundSoFar, weight, weight_of_elements, weight_of_arms}
use Rattle.kripke_model.specs.Reading.{term_of, terms_in, arms_in}
use Rattle.std.proofs.Common.{◌+◌, ◌*◌}
use Rattle.single_states.proofs.valuation.+evaluate.Given as goal

abbrev pub invariant-has_in_arms-loop-arm : goal.invariant-has_in_arms-loop-arm
invariant-has_in_arms-loop-arm l = PassedOver l.model l.s l.t l.arms l.arm-index

abbrev pub invariant-has_in_elements-loop-e : goal.invariant-has_in_elements-loop-e
invariant-has_in_elements-loop-e l = FoundSoFar l.model l.s l.t l.elements l.v l.e-index l.seen

abbrev pub invariant-summarize_arms-loop-arm : goal.invariant-summarize_arms-loop-arm
invariant-summarize_arms-loop-arm l = PassedOver l.model l.s l.t l.arms l.arm-index

abbrev pub invariant-summarize_elements-loop-i : goal.invariant-summarize_elements-loop-i
invariant-summarize_elements-loop-i l = SoFar l.model l.s l.t l.elements l.i l.all

abbrev pub decreases-summarize : goal.decreases-summarize
decreases-summarize l = 3 * weight (term_of l.expr.now)

abbrev pub decreases-has : goal.decreases-has
decreases-has l = 3 * weight (term_of l.expr.now) + 1

abbrev pub decreases-summarize_elements : goal.decreases-summarize_elements
decreases-summarize_elements l = 3 * weight_of_elements (terms_in l.elements.now) + 2

abbrev pub decreases-has_in_elements : goal.decreases-has_in_elements
decreases-has_in_elements l = 3 * weight_of_elements (terms_in l.elements.now) + 2

abbrev pub decreases-summarize_arms : goal.decreases-summarize_arms
decreases-summarize_arms l = 3 * weight_of_arms (arms_in l.arms.now) + 2

abbrev pub decreases-has_in_arms : goal.decreases-has_in_arms
decreases-has_in_arms l = 3 * weight_of_arms (arms_in l.arms.now) + 2
