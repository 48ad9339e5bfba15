use Rattle.std.proofs.Common.{◌≡◌, ◌++◌, map, take}
use Rattle.smv_parser.specs.Tree as tree
use Rattle.smv_parser.specs.View.{tree_of, arm_pair}
use Rattle.smv_instances.specs.Abstract as abstract
use Rattle.smv_instances.specs.Program.{Path}
use Rattle.smv_names.specs.Abbreviations.{element_mentions, arm_mentions, index_mentions}
use Rattle.smv_names.specs.Mentions.{plain_mention}
use Rattle.smv_names.specs.Written.{followed}
use Rattle.smv_names.proofs.mentions.+mentions.Given as goal

abbrev pub invariant-push_arms-loop-arm : goal.invariant-push_arms-loop-arm
invariant-push_arms-loop-arm l = map plain_mention l.mentions.items ≡ map plain_mention l.initial.mentions.items ++ arm_mentions (abstract.arms (tree.arms_of (map arm_pair (take l.arm-index l.arms))))

abbrev pub invariant-push_elements-loop-element : goal.invariant-push_elements-loop-element
invariant-push_elements-loop-element l = map plain_mention l.mentions.items ≡ map plain_mention l.initial.mentions.items ++ element_mentions (abstract.exprs (tree.trees_of (map tree_of (take l.element-index l.elements))))

abbrev pub invariant-push_index_mentions-loop-part : goal.invariant-push_index_mentions-loop-part
invariant-push_index_mentions-loop-part l =
    map plain_mention l.mentions.items ≡ map plain_mention l.initial.mentions.items ++ index_mentions (followed (Path.Here l.path.line l.path.first) (take l.part-index l.path.parts.items))
