-- What a reader finds of a whole text, block by block.
use Rattle.std.proofs.Common.{◌≡◌, ℕ, ◌+◌, ◌<◌, ◌≤◌, List, [], length, flat_map, sym, subst, arith, length-append}
use Rattle.std.specs.Prelude.{AllPairs, Result, Ok, Err}
use Rattle.kripke_model.specs.Flat.{IsFlat}
use Rattle.kripke_model.specs.System.{System}
use Rattle.bit_encode.specs.Code.{state_bits}
use Rattle.proof_text.specs.BlockReading.{FindsFirst}
use Rattle.proof_text.specs.File.{Block, File}
use Rattle.proof_text.specs.FileFault.{IsFileFault}
use Rattle.proof_text.specs.FileParts.{FitsOrder, FitsNextBlock}
use Rattle.proof_text.specs.Lines.{header_lines, block_lines}
use Rattle.proof_text.specs.SetParts.{Finds}
use Rattle.proof_text.specs.SmallNumbers.{HasSmallNumbers}
use Rattle.proof_text.specs.Spells.{Spells, most_bytes}
use Rattle.text_lines.specs.Cursor.{Place}
use Rattle.text_lines.specs.declared.faults.Fault.{Fault}
use Rattle.proof_text.proofs.FileFaults.{IsFileAt, bare, bare_read, block_read, header_fault, file_spelled}
use Rattle.proof_text.proofs.FirstBlocks.{next_fault}
use Rattle.proof_text.proofs.NextBlocks.{with_block}

module _ (m : System) (start : Place) (first : start.line ≡ 1) where
  abbrev begun : Place
  begun = record { left = start.left; line = 1 }

  is_start : begun ≡ start
  is_start = (λ i. record { left = start.left; line = sym first i })

  -- the blocks that were read rise, and the next line has this number
  pub blocks_rise : {f : File} {mid : Place} → IsFileAt m start f mid → AllPairs (λ (a b : Block). a.spec < b.spec) f.blocks
  blocks_rise read = read.finds.read.fits.rising

  pub next_place : {f : File} {mid : Place} → IsFileAt m start f mid → mid.line ≡ 3 + length (flat_map (block_lines m) f.blocks)
  next_place {f} read = omega (arith, read.finds.line, first, length-append (header_lines m f.order) (flat_map (block_lines m) f.blocks))

  pub header_read : {order : List ℕ} {new : Place} → Finds (FitsOrder m) (header_lines m) start (Ok order) new → IsFileAt m start (bare m order) new
  header_read {order} found = bare_read m order (found (state_bits m))

  pub one_more : {f : File} {b : Block} {mid new : Place} → IsFileAt m start f mid → FindsFirst (state_bits m) (FitsNextBlock m f.blocks) (block_lines m) mid (Ok b) new → IsFileAt m start (with_block f b) new
  one_more {f} {b} read found = block_read m f b read found

  pub next_found : {levels : ℕ} {earlier blocks : List Block} (mid new : Place) (r : Result Block Fault) → levels ≡ state_bits m → earlier ≡ blocks → FindsFirst levels (FitsNextBlock m earlier) (block_lines m) mid r new
      → FindsFirst (state_bits m) (FitsNextBlock m blocks) (block_lines m) mid r new
  next_found {levels} {earlier} {blocks} mid new r same are found =
      subst (λ n. FindsFirst n (FitsNextBlock m blocks) (block_lines m) mid r new) same (subst (λ bs. FindsFirst levels (FitsNextBlock m bs) (block_lines m) mid r new) are found)

  -- less is left behind a block
  pub less_left : (f : File) (b : Block) (mid new : Place) → FindsFirst (state_bits m) (FitsNextBlock m f.blocks) (block_lines m) mid (Ok b) new → length new.left < length mid.left
  less_left f b mid new found = omega (arith, found.room, found.finds.line)

  pub all_read : {f : File} {last : Place} → IsFileAt m start f last → last.left ≡ [] → length start.left ≤ most_bytes → Spells m f start.left
  all_read {f} {last} read none short = file_spelled m start.left f last (subst (λ p. IsFileAt m p f last) (sym is_start) read) none short

  module _ (flat : IsFlat m) where
    pub no_header : {new : Place} {fault : Fault} → Finds (FitsOrder m) (header_lines m) start (Err fault) new → IsFileFault m start.left new.line fault
    no_header {new} {fault} found =
        header_fault m flat start.left new fault (subst (λ p. Finds (FitsOrder m) (header_lines m) p (Err fault) new) (sym is_start) found (state_bits m)).finds

    pub no_block : HasSmallNumbers m → {f : File} {mid new : Place} {fault : Fault} → IsFileAt m start f mid → (mid.left ≡ [] → ⊥)
        → FindsFirst (state_bits m) (FitsNextBlock m f.blocks) (block_lines m) mid (Err fault) new → IsFileFault m start.left new.line fault
    no_block small {f} {mid} read more found = next_fault m flat start.left small f mid (subst (λ p. IsFileAt m p f mid) (sym is_start) read) more found
