use Rattle.std.proofs.Common.{◌≡◌, ◌+◌, ◌*◌, ◌^◌, ◌&&◌, ◌||◌, Bool, List, drop, take}
use Rattle.bdd_nodes.specs.Store.{value_of, levels_of, Has}
use Rattle.bdd_ops.specs.Engine.{store_of}
use Rattle.kripke_model.specs.declared.expressions.Value.{Value}
use Rattle.kripke_model.specs.Evaluation.{Checked}
use Rattle.kripke_model.specs.Reading.{term_of, terms_in, arms_in}
use Rattle.kripke_model.specs.Size.{term_nodes, element_nodes, arm_nodes}
use Rattle.value_tables.specs.Work.{Keeps, Spends, list_allowance}
use Rattle.value_tables.specs.Cells.{shows, same_reading, any_of, AreCells}
use Rattle.value_tables.specs.States.{arms_meaning}
use Rattle.value_tables.proofs.GrowthLemmas.{nodes_of_arms}
use Rattle.value_tables.proofs.build.+build.Given as goal

abbrev pub decreases-build : goal.decreases-build
decreases-build g l = 2 * term_nodes (term_of l.expr.now)

abbrev pub decreases-build_elements : goal.decreases-build_elements
decreases-build_elements g l = 2 * element_nodes (terms_in l.elements.now) + 1

abbrev pub decreases-build_arm : goal.decreases-build_arm
decreases-build_arm g l = 2 * (term_nodes (term_of l.arm.now.guard) + term_nodes (term_of l.arm.now.right))

abbrev pub decreases-build_arms : goal.decreases-build_arms
decreases-build_arms g l = 2 * arm_nodes (arms_in l.arms.now) + 1

-- the cells are those of the arms so far, and the rest is that of the arms that are left
abbrev pub invariant-build_arms-loop-arm : goal.invariant-build_arms-loop-arm
invariant-build_arms-loop-arm g l = record {
  cells : AreCells (store_of l.engine) l.cells.items;
  left : Has (store_of l.engine) l.left;
  shows : (bits : List Bool) (k : Checked Value) → any_of (same_reading k) (arms_meaning l.layout l.model l.next (arms_in l.arms) bits)
      ≡ (shows (λ r. value_of (store_of l.engine) r bits) l.cells.items k || (value_of (store_of l.engine) l.left bits && any_of (same_reading k) (arms_meaning l.layout l.model l.next (arms_in (drop l.arm-index l.arms)) bits)));
  keeps : Keeps l.initial.engine l.engine l.initial.steps l.steps;
  spends : Spends (list_allowance (nodes_of_arms (take l.arm-index l.arms)) (2 ^ levels_of (store_of l.initial.engine))) (store_of l.initial.engine) (store_of l.engine);
}
