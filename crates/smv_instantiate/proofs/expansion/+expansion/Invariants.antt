use Rattle.std.proofs.Common.{◌≡◌, ◌+◌, ◌*◌, map, take, Some}
use Rattle.kripke_model.specs.Reading.{arm_of, term_of}
use Rattle.kripke_model.specs.Term.{Arms, Terms}
use Rattle.smv_instances.specs.Program.{Program}
use Rattle.smv_instances.specs.Instances.{Scope}
use Rattle.smv_instances.specs.Numbered.{scope_at}
use Rattle.smv_instantiate.specs.Expansion.{ArmsStandFor, CanExpand, ElementsStandFor, plain_arms, plain_exprs}
use Rattle.smv_instantiate.proofs.ExpandLemmas.{arms_list, terms_list}
use Rattle.smv_instantiate.proofs.expansion.+expansion.Given as goal

abbrev pub decreases-expand_node : goal.decreases-expand_node
decreases-expand_node l = 3 * l.depth

abbrev pub decreases-expand_within : goal.decreases-expand_within
decreases-expand_within l = 3 * l.depth + 1

abbrev pub decreases-expand_elements : goal.decreases-expand_elements
decreases-expand_elements l = 3 * l.depth + 2

abbrev pub decreases-expand_arms : goal.decreases-expand_arms
decreases-expand_arms l = 3 * l.depth + 2

-- the terms of the elements so far
abbrev pub invariant-expand_elements-loop-element : goal.invariant-expand_elements-loop-element
invariant-expand_elements-loop-element l =
    (p : Program) (s : Scope) (ts : Terms) → CanExpand p l.instances l.paths l.firsts → scope_at p l.i ≡ Some s → ElementsStandFor p s (plain_exprs l.elements) l.depth ts
    → map term_of l.expanded.items ≡ take l.element-index (terms_list ts)

-- the terms of the arms so far
abbrev pub invariant-expand_arms-loop-arm : goal.invariant-expand_arms-loop-arm
invariant-expand_arms-loop-arm l =
    (p : Program) (s : Scope) (ts : Arms) → CanExpand p l.instances l.paths l.firsts → scope_at p l.i ≡ Some s → ArmsStandFor p s (plain_arms l.arms) l.depth ts
    → map arm_of l.expanded.items ≡ take l.arm-index (arms_list ts)
