-- The answer to a block, by the first of its lines that fails.
use Rattle.std.proofs.Common.{◌≡◌, ℕ, zero, suc, ◌+◌, ◌<◌, ◌≤◌, false, List, [], ◌∷◌, length, get_or, Option, Some, sym, ◌∙◌, ap, subst, arith, length-append}
use Rattle.std.specs.Prelude.{All, Contains, IsSomeAnd, flat_map}
use Rattle.std.proofs.lemmas.List.Elements.{All-nil}
use Rattle.bit_encode.specs.Code.{IsOrder}
use Rattle.kripke_model.specs.Ctl.{Ctl}
use Rattle.kripke_model.specs.System.{System}
use Rattle.fair_rules.specs.Checks.{Check, IsMet, LineHolds, AllHold, IsFirstBad}
use Rattle.proof_form.specs.Shape.{IsInShape, spec_formula}
use Rattle.proof_form.specs.Meaning.{ClaimHolds, IsProofOf, ProofsSound, obligations}
use Rattle.proof_form.proofs.KeptShapes.{shape_kept}
use Rattle.proof_lines.specs.Tested.{AreTested, counted, next_count}
use Rattle.proof_text.specs.File.{Block, File}
use Rattle.proof_text.specs.Lines.{block_lines, file_lines, header_lines, text_of}
use Rattle.proof_text.specs.Meaning.{IsProved, IsFirstBadLine, LinesMatch, node_set, over_states}
use Rattle.proof_text.specs.Spells.{HasGoodNodes, IsBlock, Spells, StandFrom, most_bytes}
use Rattle.proof_text.proofs.FewLines.{lines_up}
use Rattle.proof_checker.specs.Reads.{IsRead}

-- ---- the lines of a file

ends_within : (m : System) (n k : ℕ) (blocks : List Block) (b : Block) → StandFrom m n blocks → k < length blocks → get_or blocks k b ≡ b
    → b.first + length (block_lines m b) ≤ n + length (flat_map (block_lines m) blocks)
ends_within m n k [] b stand lt is = absurd (omega (arith, lt))
ends_within m n zero (a ∷ blocks) b stand lt is =
    subst (λ (x : Block). x.first + length (block_lines m x) ≤ n + length (flat_map (block_lines m) (a ∷ blocks))) is
    (omega (arith, stand.0, length-append (block_lines m a) (flat_map (block_lines m) blocks)))
ends_within m n (suc k) (a ∷ blocks) b stand lt is =
    omega (arith, ends_within m (n + length (block_lines m a)) k blocks b stand.1 (omega (arith, lt)) is, length-append (block_lines m a) (flat_map (block_lines m) blocks))

-- a block ends within as many lines as the file may have bytes
block_within : (m : System) (file : File) (bytes : List ℕ) (b : Block) → Spells m file bytes → Contains file.blocks b → b.first + length (block_lines m b) ≤ 67108865
block_within m file bytes b spelled here =
    let within : length (file_lines m file) ≤ length (text_of (file_lines m file)) = lines_up (file_lines m file) in
    let short : length (text_of (file_lines m file)) ≤ 67108864 = subst (λ bs. length bs ≤ most_bytes) spelled.text spelled.short in
    let ends = ends_within m 3 here.0 file.blocks b spelled.is_file.places here.1 here.2 in
    omega (arith, within, short, length-append (header_lines m file.order) (flat_map (block_lines m) file.blocks), ends)

-- ---- counts of lines

counted_sum : (c n : ℕ) → c + n ≤ 18446744073709551615 → counted c n ≡ c + n
counted_sum c zero le = omega arith
counted_sum c (suc n) le =
    let next : next_count c ≡ c + 1 = omega (arith, le) in
    ap (λ k. counted k n) next ∙ counted_sum (c + 1) n (omega (arith, le)) ∙ omega arith

fails_within : (m : System) (lines : List (List Check)) (n : ℕ) → (LineHolds m lines n → ⊥) → n < length lines
fails_within m [] n h = absurd (h (All-nil (IsMet m)))
fails_within m (x ∷ lines) zero h = omega arith
fails_within m (x ∷ lines) (suc n) h = omega (arith, fails_within m lines n h)

-- ---- a block that is read

module _ (m : System) (order : List ℕ) (b : Block) (read : IsRead m order b) where
  pub block_is : IsBlock m b
  block_is = subst (IsBlock m) read.here.2 (read.spelled.is_file.blocks read.here.0 b read.here.1)

  pub ordered_is : IsOrder (length m.vars) order
  ordered_is = subst (IsOrder (length m.vars)) read.order_is read.spelled.is_file.order

  pub nodes_good : ((file : File) (bytes : List ℕ) → Spells m file bytes → All (HasGoodNodes m) file.blocks) → HasGoodNodes m b
  nodes_good law = subst (HasGoodNodes m) read.here.2 (law read.file read.bytes read.spelled read.here.0 b read.here.1)

  module _ (f : Ctl) (is : Some f ≡ spec_formula m b.spec) where
    pub shape_is : IsInShape m f b.proof
    shape_is = subst (λ (o : Option Ctl). IsSomeAnd o (λ f. IsInShape m f b.proof)) (sym is) block_is.shape

    kept_is : IsInShape m f (over_states m order b)
    kept_is = shape_kept (node_set m order b.nodes) m f b.proof shape_is

    module _ (match : LinesMatch m) where
      lines_within : b.first + 2 + length b.nodes + length (obligations m f (over_states m order b)) ≤ 67108865
      lines_within = omega (arith, block_within m read.file read.bytes b read.spelled read.here, match order b f shape_is)

      pub nodes_few : length b.nodes + 2 < 4294967296
      nodes_few = omega (arith, lines_within)

      bad_is : (count : ℕ) → AreTested m (obligations m f (over_states m order b)) 0 false count → (IsFirstBad m (obligations m f (over_states m order b)) count) × (count < length (obligations m f (over_states m order b)))
      bad_is count t =
          let less : t.0 < length (obligations m f (over_states m order b)) = fails_within m (obligations m f (over_states m order b)) t.0 t.1.1 in
          let told : t.0 ≡ count = sym (t.2 ∙ counted_sum 0 t.0 (omega (arith, less, lines_within)) ∙ omega arith) in
          subst (λ n. IsFirstBad m (obligations m f (over_states m order b)) n × (n < length (obligations m f (over_states m order b)))) told (t.1, less)

      pub line_fits : (count : ℕ) → AreTested m (obligations m f (over_states m order b)) 0 false count → b.first + 2 + length b.nodes + count < 4294967296
      line_fits count t = omega (arith, (bad_is count t).1, lines_within)

      pub rejected : (count line : ℕ) → AreTested m (obligations m f (over_states m order b)) 0 false count → line ≡ b.first + 2 + length b.nodes + count → IsFirstBadLine m order b line
      rejected count line t e =
          (count, subst (λ (o : Option Ctl). IsSomeAnd o (λ f. IsInShape m f (over_states m order b) × IsFirstBad m (obligations m f (over_states m order b)) count)) is (kept_is, (bad_is count t).0), e)

    pub accepted : ProofsSound m → AllHold m (obligations m f (over_states m order b)) → IsProved m order b × ClaimHolds m b.spec b.proof.claim
    accepted sound all =
        let proved : IsProved m order b = subst (λ (o : Option Ctl). IsSomeAnd o (λ f. IsProofOf m f (over_states m order b))) is (record { shape = kept_is; lines = all }) in
        (proved, sound b.spec (over_states m order b) proved)
