-- A text is one file at most, and a file isn't refused.
use Rattle.std.proofs.Common.{◌≡◌, ℕ, ◌≤◌, List, [], ◌++◌, map, flat_map, refl, sym, ◌∙◌, subst, arith, append-nil}
use Rattle.std.specs.Prelude.{All}
use Rattle.std.proofs.lemmas.List.Elements.{All-weaker}
use Rattle.kripke_model.specs.Flat.{IsFlat}
use Rattle.kripke_model.specs.System.{System, constraint_count, variable_name}
use Rattle.proof_text.specs.File.{Block, File}
use Rattle.proof_text.specs.Lines.{line_text, words_of, text_of, block_lines, file_lines}
use Rattle.proof_text.specs.SmallNumbers.{HasSmallNumbers}
use Rattle.proof_text.specs.Refuses.{Begins, CeasesBy, IsNodeLine, IsOrderLine, Refuses}
use Rattle.proof_text.specs.Spells.{IsBlock, Spells, most_bytes}
use Rattle.proof_text.specs.declared.refusals.TextRefusal.{TextRefusal}
use Rattle.proof_text.specs.declared.refusals.TextRefusal.TheVariants.{BadLine, Truncated, BadOrder, BadNode, TooLong, Memory}
use Rattle.text_lines.specs.Ceasing.{HasLines, AreReadOnce}
use Rattle.text_lines.proofs.Ceasings.{ceases_never}
use Rattle.text_lines.proofs.Cuts.{cut_unique, no_feed}
use Rattle.text_lines.specs.WholeLines.{join_lines, IsOneLine}
use Rattle.proof_text.proofs.Beginnings.{begins_less}
use Rattle.proof_text.proofs.PlainLines.{NamesArePlain, file_plain}
use Rattle.proof_text.proofs.PlainNames.{plain_names}
use Rattle.proof_text.proofs.PlainWords.{each_line, same_words}
use Rattle.proof_text.proofs.KnownBlocks.{FitsBlock, blocks_known}
use Rattle.proof_text.proofs.KnownFits.{block_fits}
use Rattle.proof_text.proofs.KnownStates.{states_known, order_known}

module _ (m : System) (names : NamesArePlain m) (bytes : List ℕ) where
  -- the whole lines of a file's text
  pub lines_are : (f : File) → Spells m f bytes → (texts : List (List ℕ)) (rest : List ℕ) → HasLines most_bytes bytes texts rest → texts ≡ map line_text (file_lines m f)
  lines_are f s texts rest h =
      let one : All IsOneLine (map line_text (file_lines m f)) = each_line (file_lines m f) (file_plain m names f) in
      let e : join_lines texts ++ rest ≡ join_lines (map line_text (file_lines m f)) ++ [] = sym h.whole.cut ∙ s.text ∙ sym (append-nil (text_of (file_lines m f))) in
      (cut_unique texts (map line_text (file_lines m f)) rest [] h.whole.each one h.whole.last no_feed e).0

  -- they begin a file all along
  all_begin : (f : File) → Spells m f bytes → Begins m (map line_text (file_lines m f))
  all_begin f s = (
    record { file = f; is_file = s.is_file; front = file_lines m f; rest = []; lines = sym (append-nil (file_lines m f)); texts_are = refl },
    s.nodes,
  )

  never_stops : (f : File) → Spells m f bytes → (l : ℕ) (P : List (List ℕ) → ℕ → Type 0) → CeasesBy m bytes l P → ⊥
  never_stops f s l P (texts, rest, k, has, stops, line, p) = ceases_never (Begins m) (begins_less m) texts k stops (subst (Begins m) (sym (lines_are f s texts rest has)) (all_begin f s))

  pub not_both : (f : File) (r : TextRefusal) → Spells m f bytes → Refuses m bytes r → ⊥
  not_both f TooLong s h = omega (arith, h, s.short)
  not_both f (Truncated l) s h = h.none f s
  not_both f BadOrder s (l, h) = never_stops f s l IsOrderLine h
  not_both f (BadNode l) s h = never_stops f s l (IsNodeLine m) h
  not_both f (BadLine l) s h = never_stops f s l (λ texts k. (IsNodeLine m texts k → ⊥) × (IsOrderLine texts k → ⊥)) h
  not_both f Memory s h = h

-- ---- one file

module _ (m : System) (flat : IsFlat m) (small : HasSmallNumbers m) where
  all_fit : (blocks : List Block) → All (IsBlock m) blocks → All (FitsBlock m) blocks
  all_fit blocks p = All-weaker (IsBlock m) (FitsBlock m) (block_fits m flat) blocks p

  one_file : (bytes : List ℕ) (f g : File) → Spells m f bytes → Spells m g bytes → f ≡ g
  one_file bytes f g s t =
      let names = plain_names m flat in
      let pf = file_plain m names f in
      let pg = file_plain m names g in
      let e : join_lines (map line_text (file_lines m f)) ++ [] ≡ join_lines (map line_text (file_lines m g)) ++ [] =
      append-nil (text_of (file_lines m f)) ∙ sym s.text ∙ t.text ∙ sym (append-nil (text_of (file_lines m g))) in
      let texts : map line_text (file_lines m f) ≡ map line_text (file_lines m g) =
      (cut_unique (map line_text (file_lines m f)) (map line_text (file_lines m g)) [] [] (each_line (file_lines m f) pf) (each_line (file_lines m g) pg) no_feed no_feed e).0 in
      let lines : map words_of (file_lines m f) ≡ map words_of (file_lines m g) = same_words (file_lines m f) (file_lines m g) pf pg texts in
      let named : map (variable_name m) f.order ≡ map (variable_name m) g.order = cc in
      let shown : map words_of (flat_map (block_lines m) f.blocks) ≡ map words_of (flat_map (block_lines m) g.blocks) = cc in
      let order = order_known m flat small f.order g.order s.is_file.order.known t.is_file.order.known named in
      let few : constraint_count m ≤ 4294967295 = omega (arith, flat.limits.constraints) in
      let blocks = blocks_known m few (states_known m flat small) 3 f.blocks g.blocks (all_fit f.blocks s.is_file.blocks) (all_fit g.blocks t.is_file.blocks) s.is_file.places t.is_file.places shown in
      (λ i. record { order = order i; blocks = blocks i })

  pub are_one_file : (bytes : List ℕ) → AreReadOnce (λ f. Spells m f bytes) (Refuses m bytes)
  are_one_file bytes = record { one = one_file bytes; not_both = not_both m (plain_names m flat) bytes }
