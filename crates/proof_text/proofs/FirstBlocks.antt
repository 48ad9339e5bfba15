-- Where a text goes on behind the blocks that were read, and no block begins there.
use Rattle.std.proofs.Common.{◌≡◌, inl, inr, ℕ, ◌+◌, ◌<◌, false, List, [], ◌∷◌, ◌++◌, length, map, take, flat_map, refl, sym, ◌∙◌, ap, subst, arith, append-nil, length-append}
use Rattle.std.specs.Prelude.{Err}
use Rattle.std.proofs.lemmas.List.{length-map}
use Rattle.kripke_model.specs.Flat.{IsFlat}
use Rattle.kripke_model.specs.System.{System}
use Rattle.bit_encode.specs.Code.{state_bits}
use Rattle.proof_text.specs.BlockReading.{FindsFirst}
use Rattle.proof_text.specs.File.{Block, File}
use Rattle.proof_text.specs.FileFault.{IsFileFault}
use Rattle.proof_text.specs.FileParts.{FitsNextBlock}
use Rattle.proof_text.specs.Lines.{Line, line_text, block_lines, file_lines}
use Rattle.proof_text.specs.Refuses.{MayBegin, Begins}
use Rattle.proof_text.specs.SetParts.{StartsNone}
use Rattle.proof_text.specs.SmallNumbers.{HasSmallNumbers}
use Rattle.text_lines.specs.Cursor.{Place}
use Rattle.text_lines.specs.WholeLines.{join_lines, lines_in, rest_in}
use Rattle.text_lines.specs.declared.faults.Fault.{Fault}
use Rattle.text_lines.specs.declared.faults.Fault.TheVariants.{End}
use Rattle.text_lines.proofs.Cuts.{is_cut}
use Rattle.text_lines.proofs.Lists.{same_first}
use Rattle.proof_text.proofs.FileFaults.{IsFileAt, spelled, block_behind, past, texts_are, block_fault}

-- the line of a list of one text
one_line : (ls : List Line) (t : List ℕ) → map line_text ls ≡ t ∷ [] → (l : Line) × (ls ≡ l ∷ []) × (line_text l ≡ t)
one_line [] t e = absurd (omega (arith, ap length e))
one_line (l ∷ []) t e = (l, refl, same_first (line_text l) t [] [] e)
one_line (l ∷ k ∷ ls) t e = absurd (omega (arith, ap length e))

module _ (m : System) (flat : IsFlat m) (bytes : List ℕ) (small : HasSmallNumbers m) (f : File) (mid : Place) (read : IsFileAt m (record { left = bytes; line = 1 }) f mid) where
  own_lines : List Line
  own_lines = file_lines m f

  begun : (texts : List (List ℕ)) → texts ≡ map line_text (file_lines m f) → Begins m texts
  begun texts e =
      (record { file = f; is_file = read.finds.read.fits; front = file_lines m f; rest = []; lines = sym (append-nil (file_lines m f)); texts_are = sym e }, read.finds.read.good)

  -- bytes are left, but no whole line
  ends : (mid.left ≡ [] → ⊥) → lines_in mid.left ≡ [] → IsFileFault m bytes mid.line End
  ends more none = (
    omega (arith, read.finds.line, ap length are, length-map (file_lines m f) line_text),
    begun (lines_in bytes) are,
    λ g is same. more ((is_cut mid.left).cut ∙ ap (λ ts. join_lines ts ++ rest_in mid.left) none ∙ read.finds.rest ∙ (spelled m flat bytes g same).1),
  )
    where
      are : lines_in bytes ≡ map line_text (file_lines m f)
      are = texts_are m flat bytes small f mid read ∙ ap (λ ts. map line_text (file_lines m f) ++ ts) none ∙ append-nil (map line_text (file_lines m f))

  -- a line is there with which no block begins
  none_starts : {new : Place} {fault : Fault} → StartsNone (FitsNextBlock m f.blocks) (block_lines m) mid fault new → IsFileFault m bytes new.line fault
  none_starts {new} {fault} s = subst (IsFileFault m bytes new.line) (sym s.is) (k, omega (arith, read.finds.line), within, begun (take k (lines_in bytes)) before, after)
    where
      k : ℕ
      k = length (file_lines m f)

      others : List (List ℕ)
      others = s.shown.0

      within : k < length (lines_in bytes)
      within = omega (arith, ap length (texts_are m flat bytes small f mid read), length-append (map line_text (file_lines m f)) (lines_in mid.left), length-map (file_lines m f) line_text, ap length s.shown.1)

      before : take k (lines_in bytes) ≡ map line_text (file_lines m f)
      before = past m flat bytes small f mid read k 0 (omega arith) ∙ append-nil (map line_text (file_lines m f))

      next : take (k + 1) (lines_in bytes) ≡ map line_text (file_lines m f) ++ s.text ∷ []
      next = past m flat bytes small f mid read (k + 1) 1 refl ∙ ap (λ ts. map line_text (file_lines m f) ++ take 1 ts) s.shown.1

      after : MayBegin m (take (k + 1) (lines_in bytes)) → ⊥
      after b =
          let h = block_behind m flat bytes small f mid read false (s.text ∷ []) (omega arith) b.file b.is_file b.front b.rest b.lines (b.texts_are ∙ next) (λ i d less. tt) in
          let l = one_line h.lines s.text h.texts_are in
          go h.block h.fits (flat_map (block_lines m) h.others) l.0 b.rest (h.whole ∙ ap (λ ls. ls ++ b.rest) l.1) l.2
        where
          go : (x : Block) → FitsNextBlock m f.blocks x → (more : List Line) (l : Line) (rest : List Line) → block_lines m x ++ more ≡ (l ∷ []) ++ rest → line_text l ≡ s.text → ⊥
          go x fits more l rest whole is = s.none x fits _ _ refl (ap line_text (same_first _ l _ rest whole) ∙ is)

  -- what is found where a block may begin
  pub next_fault : (mid.left ≡ [] → ⊥) → {new : Place} {fault : Fault} → FindsFirst (state_bits m) (FitsNextBlock m f.blocks) (block_lines m) mid (Err fault) new → IsFileFault m bytes new.line fault
  next_fault more {new} {fault} (inl e) = subst (λ (p : Place). IsFileFault m bytes p.line fault) (sym e.2) (subst (IsFileFault m bytes mid.line) (sym e.1) (ends more e.0))
  next_fault more {new} {fault} (inr (inl s)) = none_starts s
  next_fault more {new} {fault} (inr (inr found)) = block_fault m flat bytes small f mid read more new fault found.finds
