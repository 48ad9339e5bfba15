use Rattle.std.proofs.Common.{◌≡◌, ◌≤◌, ℕ, List, ◌++◌, length, map}
use Rattle.smv_lexer.specs.View.{views}
use Rattle.reader_laws.specs.Reading.{many}
use Rattle.smv_parser.proofs.Codes.{rest_of}
use Rattle.smv_parser.proofs.items.read_items.Given as goal

-- what was read so far, and the reading of the rest, are the reading of all
abbrev pub invariant-loop-alloc : goal.invariant-loop-alloc
invariant-loop-alloc g l =
    (length l.rest ≤ length l.fn.tokens) × (m : ℕ) × (k : List g.T.Item.Tree → List g.T.Item.Tree) × (length (views l.rest) ≤ m)
    × ((xs : List g.T.Item.Tree) → k xs ≡ map g.T.Item.tree l.items.items ++ xs)
    × (many g.T.Led.begins g.T.Item.reading (length (views l.fn.tokens)) (views l.fn.tokens) ≡ rest_of g.T.Led.begins g.T.Item.reading m (views l.rest) k)

abbrev pub decreases-loop-alloc : goal.decreases-loop-alloc
decreases-loop-alloc g l = length l.rest
