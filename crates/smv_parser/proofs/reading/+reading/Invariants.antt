use Rattle.std.proofs.Common.{◌≡◌, ◌≤◌, ◌<◌, ◌+◌, ◌*◌, ◌-◌, ◌++◌, ℕ, List, map, length}
use Rattle.reader_laws.specs.Reading.{both, headed}
use Rattle.smv_lexer.specs.declared.sign.Sign.{Sign}
use Rattle.smv_lexer.specs.View.{views}
use Rattle.smv_parser.specs.Reading.{begins_part, read_part, read_parts, read, more, read_list, pair_of, read_arm, read_arms, arms_pair_of, begins_expression}
use Rattle.smv_parser.specs.Tree.{Tree, Part, parts_of, parts_depth, depth, trees_depth, trees_of, arms_depth, arms_of}
use Rattle.smv_parser.specs.Tests.{is_sign}
use Rattle.smv_parser.proofs.Codes.{rest_of}
use Rattle.smv_parser.specs.View.{tree_of, arm_pair, part_of}
use Rattle.smv_parser.proofs.reading.+reading.Given as goal

abbrev pub decreases-read_closed : goal.decreases-read_closed
decreases-read_closed l = 6 * l.most + 1

abbrev pub decreases-read_expression : goal.decreases-read_expression
decreases-read_expression l = 6 * l.most

abbrev pub decreases-read_operand : goal.decreases-read_operand
decreases-read_operand l = 6 * l.most + 5

-- what was read so far, and the reading of the rest, are the reading of all
abbrev pub invariant-read_expression-loop-operator : goal.invariant-read_expression-loop-operator
invariant-read_expression-loop-operator l =
    (l.depth ≤ l.most) × (l.depth ≡ depth (tree_of l.left)) × (length l.rest < length l.fn.tokens)
    × (m : ℕ) × (length (views l.rest) ≤ m)
    × (read l.most l.least (views l.fn.tokens) ≡ more (read (l.most - 1)) (l.most - 1) m l.least (tree_of l.left) (views l.rest))

abbrev pub decreases-read_expression-loop-operator : goal.decreases-read_expression-loop-operator
decreases-read_expression-loop-operator l = length l.rest

abbrev pub decreases-read_until : goal.decreases-read_until
decreases-read_until l = 6 * l.most + 2

abbrev pub decreases-read_list : goal.decreases-read_list
decreases-read_list l = 6 * l.most + 1

-- what was read so far, and the reading of the rest, are the reading of all
abbrev pub invariant-read_list-loop-alloc : goal.invariant-read_list-loop-alloc
invariant-read_list-loop-alloc l =
    (l.depth ≤ l.most) × (l.depth ≡ trees_depth (trees_of (map tree_of l.items.items))) × (1 ≤ length l.items.items) × (length l.rest < length l.fn.tokens)
    × (m : ℕ) × (k : List Tree → Tree × List Tree) × (length (views l.rest) ≤ m)
    × ((xs : List Tree) → k xs ≡ pair_of (map tree_of l.items.items ++ xs))
    × (read_list (read l.most) l.most (views l.fn.tokens) ≡ rest_of (is_sign Sign.Comma) (headed (is_sign Sign.Comma) (read l.most 1)) m (views l.rest) k)

abbrev pub decreases-read_list-loop-alloc : goal.decreases-read_list-loop-alloc
decreases-read_list-loop-alloc l = length l.rest

abbrev pub decreases-read_arm : goal.decreases-read_arm
decreases-read_arm l = 6 * l.most + 2

abbrev pub decreases-read_arms : goal.decreases-read_arms
decreases-read_arms l = 6 * l.most + 3

-- what was read so far, and the reading of the rest, are the reading of all
abbrev pub invariant-read_arms-loop-alloc : goal.invariant-read_arms-loop-alloc
invariant-read_arms-loop-alloc l =
    (l.depth ≤ l.most) × (l.depth ≡ arms_depth (arms_of (map arm_pair l.items.items))) × (1 ≤ length l.items.items) × (length l.rest < length l.fn.tokens)
    × (m : ℕ) × (k : List (Tree × Tree) → (Tree × Tree) × List (Tree × Tree)) × (length (views l.rest) ≤ m)
    × ((xs : List (Tree × Tree)) → k xs ≡ arms_pair_of (map arm_pair l.items.items ++ xs))
    × (both (read_arm (read l.most) l.most) (read_arms (read l.most) l.most) (views l.fn.tokens) ≡ rest_of begins_expression (read_arm (read l.most) l.most) m (views l.rest) k)

abbrev pub decreases-read_arms-loop-alloc : goal.decreases-read_arms-loop-alloc
decreases-read_arms-loop-alloc l = length l.rest

abbrev pub decreases-read_part : goal.decreases-read_part
decreases-read_part l = 6 * l.most + 2

abbrev pub decreases-read_parts : goal.decreases-read_parts
decreases-read_parts l = 6 * l.most + 3

-- what was read so far, and the reading of the rest, are the reading of all
abbrev pub invariant-read_parts-loop-alloc : goal.invariant-read_parts-loop-alloc
invariant-read_parts-loop-alloc l =
    (l.depth ≤ l.most) × (l.depth ≡ parts_depth (parts_of (map part_of l.items.items))) × (length l.rest ≤ length l.fn.tokens)
    × (m : ℕ) × (k : List Part → List Part) × (length (views l.rest) ≤ m)
    × ((xs : List Part) → k xs ≡ map part_of l.items.items ++ xs)
    × (read_parts (read l.most) l.most (views l.fn.tokens) ≡ rest_of begins_part (read_part (read l.most) l.most) m (views l.rest) k)

abbrev pub decreases-read_parts-loop-alloc : goal.decreases-read_parts-loop-alloc
decreases-read_parts-loop-alloc l = length l.rest

abbrev pub decreases-read_path : goal.decreases-read_path
decreases-read_path l = 6 * l.most + 4

abbrev pub decreases-read_opened : goal.decreases-read_opened
decreases-read_opened l = 6 * l.most + 4
