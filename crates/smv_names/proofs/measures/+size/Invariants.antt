use Rattle.std.proofs.Common.{◌≡◌, Some, map, take}
use Rattle.smv_parser.specs.Tree as tree
use Rattle.smv_parser.specs.View.{tree_of, arm_pair}
use Rattle.smv_instances.specs.Abstract as abstract
use Rattle.smv_instances.specs.Program.{Program}
use Rattle.smv_instances.specs.Instances.{Scope}
use Rattle.smv_instances.specs.Numbered.{scope_at}
use Rattle.smv_names.specs.Abbreviations.{element_mentions, arm_mentions}
use Rattle.smv_names.specs.Ready.{AreTargets}
use Rattle.smv_names.specs.Values.{AreSizesOf, AreArmSizesOf}
use Rattle.smv_names.specs.Known.{AreSizesIn}
use Rattle.smv_names.proofs.measures.+size.Given as goal

abbrev pub invariant-elements_size-loop-element : goal.invariant-elements_size-loop-element
invariant-elements_size-loop-element l = (p : Program) (s : Scope) → AreTargets p l.instances l.targets → scope_at p l.i ≡ Some s → AreSizesIn p l.sizes s (element_mentions (abstract.exprs (tree.trees_of (map tree_of l.elements))))
    → AreSizesOf p s (abstract.exprs (tree.trees_of (map tree_of (take l.element-index l.elements)))) l.total

abbrev pub invariant-arms_size-loop-arm : goal.invariant-arms_size-loop-arm
invariant-arms_size-loop-arm l = (p : Program) (s : Scope) → AreTargets p l.instances l.targets → scope_at p l.i ≡ Some s → AreSizesIn p l.sizes s (arm_mentions (abstract.arms (tree.arms_of (map arm_pair l.arms))))
    → AreArmSizesOf p s (abstract.arms (tree.arms_of (map arm_pair (take l.arm-index l.arms)))) l.total
