-- Blocks that are written one behind the other are spelled.
use Rattle.std.proofs.Common.{◌≡◌, ℕ, ◌+◌, ◌≤◌, List, [], ◌∷◌, ◌++◌, length, flat_map, refl, sym, ◌∙◌, ap, subst, arith, length-append}
use Rattle.std.specs.Prelude.{All}
use Rattle.std.specs.List.{range_with_len}
use Rattle.std.proofs.lemmas.List.Elements.{All-nil, All-cons, All-head, All-tail, All-weaker}
use Rattle.bit_encode.proofs.Declared.{declared_names}
use Rattle.bit_encode.specs.Code.{IsOrder, state_bits}
use Rattle.kripke_model.specs.Flat.{IsFlat}
use Rattle.kripke_model.specs.System.{System}
use Rattle.proof_text.specs.File.{Block}
use Rattle.proof_text.specs.Lines.{text_of, header_lines, block_lines}
use Rattle.proof_text.specs.Spells.{IsBlock, IsGoodLine, HasGoodNodes, most_bytes}
use Rattle.proof_text.specs.Written.{IsWritable, AreSpelled, own_order}
use Rattle.proof_text.proofs.DeclaredOrder.{declared_is}
use Rattle.proof_text.proofs.FewLines.{written_block}
use Rattle.proof_text.proofs.GoodLines.{blocks_lines_good}
use Rattle.proof_text.proofs.WrittenLines.{text-append}

-- the order of the variables as a header is written
order_is : (n : ℕ) → IsOrder n (range_with_len 0 n)
order_is n = subst (IsOrder n) (declared_is n) (declared_names n)

texts_are : (m : System) (blocks : List Block) → flat_map (λ b. text_of (block_lines m b)) blocks ≡ text_of (flat_map (block_lines m) blocks)
texts_are m [] = refl
texts_are m (b ∷ blocks) = ap (λ t. text_of (block_lines m b) ++ t) (texts_are m blocks) ∙ sym (text-append (block_lines m b) (flat_map (block_lines m) blocks))

each_block : (m : System) → IsFlat m → (blocks : List Block) → All (IsWritable m) blocks → length (flat_map (λ b. text_of (block_lines m b)) blocks) ≤ most_bytes → All (IsBlock m) blocks
each_block m flat [] w short = All-nil (IsBlock m)
each_block m flat (b ∷ blocks) w short =
    let e = length-append (text_of (block_lines m b)) (flat_map (λ c. text_of (block_lines m c)) blocks) in
    All-cons (IsBlock m) b blocks (written_block m flat b (All-head (IsWritable m) b blocks w) (omega (arith, short, e))) (each_block m flat blocks (All-tail (IsWritable m) b blocks w) (omega (arith, short, e)))

pub are_spelled : (m : System) → IsFlat m → AreSpelled m
are_spelled m flat blocks w rising places short =
    let order = own_order m in
    let e = length-append (text_of (header_lines m order)) (flat_map (λ b. text_of (block_lines m b)) blocks) in
    record {
      is_file = record { order = order_is (length m.vars); blocks = each_block m flat blocks w (omega (arith, short, e)); rising = rising; places = places };
      nodes = All-cons (IsGoodLine (state_bits m)) _ (_ ∷ flat_map (block_lines m) blocks) tt (All-cons (IsGoodLine (state_bits m)) _ (flat_map (block_lines m) blocks) tt
          (blocks_lines_good m blocks (All-weaker (IsWritable m) (HasGoodNodes m) (λ b h. h.nodes) blocks w)));
      text = ap (λ t. text_of (header_lines m order) ++ t) (texts_are m blocks) ∙ sym (text-append (header_lines m order) (flat_map (block_lines m) blocks));
      short = short;
    }
