-- The nodes of a block that is spelled are a good table.
use Rattle.std.proofs.Common.{◌≡◌, ℕ, zero, suc, List, [], ◌∷◌, ◌++◌, Some, flat_map, sym, subst, arith, append_assoc, append-nil}
use Rattle.std.specs.Prelude.{All, Contains, slice_get}
use Rattle.std.proofs.lemmas.List.Elements.{All-nil, All-cons, All-head, All-tail}
use Rattle.bdd_nodes.specs.declared.triple.Triple.{Triple}
use Rattle.bdd_nodes.specs.Table.{IsGood, node_of}
use Rattle.bdd_nodes.proofs.Tables.{IsGood-empty, IsGood-push}
use Rattle.bit_encode.specs.Code.{state_bits}
use Rattle.kripke_model.specs.System.{System}
use Rattle.proof_text.specs.File.{Block, File}
use Rattle.proof_text.specs.Lines.{Line, Node, header_lines, node_lines, proof_lines, block_lines}
use Rattle.proof_text.specs.Spells.{IsGoodLine, HasGoodNodes, Spells}
use Rattle.text_lines.proofs.Lists.{all_left, all_right}

found : (table : List Triple) (i : ℕ) (t : Triple) → slice_get table i ≡ Some t → Contains table t
found [] i t e = cc
found (u ∷ table) zero t e = let same : u ≡ t = cc in (zero, omega arith, same)
found (u ∷ table) (suc i) t e = let c = found table i t e in (suc c.0, omega (arith, c.1), c.2)

is_new : (table : List Triple) (t : Triple) → (Contains table t → ⊥) → (r : ℕ) → node_of table r ≡ Some t → ⊥
unfolding node_of
is_new table t new zero e = cc
is_new table t new (suc zero) e = cc
is_new table t new (suc (suc i)) e = new (found table i t e)

nodes_good : (levels : ℕ) (earlier nodes : List Triple) → IsGood levels earlier → All (IsGoodLine levels) (node_lines earlier nodes) → IsGood levels (earlier ++ nodes)
nodes_good levels earlier [] good h = subst (IsGood levels) (sym (append-nil earlier)) good
nodes_good levels earlier (t ∷ nodes) good h =
    let line = All-head (IsGoodLine levels) (Node earlier t) (node_lines (earlier ++ t ∷ []) nodes) h in
    let g = line.0 in
    let more = IsGood-push levels earlier t good g.inside (omega (arith, g.low_earlier)) (omega (arith, g.high_earlier)) g.low_deeper g.high_deeper g.different (is_new earlier t line.1) in
    subst (IsGood levels) (append_assoc earlier (t ∷ []) nodes)
    (nodes_good levels (earlier ++ t ∷ []) nodes more (All-tail (IsGoodLine levels) (Node earlier t) (node_lines (earlier ++ t ∷ []) nodes) h))

block_good : (m : System) (b : Block) → All (IsGoodLine (state_bits m)) (block_lines m b) → HasGoodNodes m b
block_good m b h =
    let levels = state_bits m in
    let behind : List Line = node_lines [] b.nodes ++ proof_lines m b.proof in
    let lines = All-tail (IsGoodLine levels) _ behind (All-tail (IsGoodLine levels) _ (_ ∷ behind) h) in
    nodes_good levels [] b.nodes (IsGood-empty levels) (all_left (IsGoodLine levels) (node_lines [] b.nodes) (proof_lines m b.proof) lines)

blocks_good : (m : System) (blocks : List Block) → All (IsGoodLine (state_bits m)) (flat_map (block_lines m) blocks) → All (HasGoodNodes m) blocks
blocks_good m [] h = All-nil (HasGoodNodes m)
blocks_good m (b ∷ blocks) h = All-cons (HasGoodNodes m) b blocks
    (block_good m b (all_left (IsGoodLine (state_bits m)) (block_lines m b) (flat_map (block_lines m) blocks) h))
    (blocks_good m blocks (all_right (IsGoodLine (state_bits m)) (block_lines m b) (flat_map (block_lines m) blocks) h))

pub spelled_good : (m : System) (file : File) (bytes : List ℕ) → Spells m file bytes → All (HasGoodNodes m) file.blocks
spelled_good m file bytes s = blocks_good m file.blocks (all_right (IsGoodLine (state_bits m)) (header_lines m file.order) (flat_map (block_lines m) file.blocks) s.nodes)
