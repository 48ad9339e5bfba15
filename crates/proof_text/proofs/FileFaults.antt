-- Where the reading of a file stops, and what follows for its text.
use Rattle.std.proofs.Common.{◌≡◌, ℕ, ◌+◌, ◌<◌, ◌≤◌, Bool, true, false, List, [], ◌∷◌, ◌++◌, length, map, take, flat_map, refl, sym, ◌∙◌, ap, subst, arith, append_assoc, append-nil, length-append, length-take-le}
use Rattle.std.specs.Prelude.{All, AllPairs, Ok}
use Rattle.std.proofs.lemmas.List.{map-append, length-map}
use Rattle.std.proofs.lemmas.List.Elements.{All-nil, All-append}
use Rattle.kripke_model.specs.Flat.{IsFlat}
use Rattle.kripke_model.specs.System.{System}
use Rattle.bit_encode.specs.Code.{state_bits}
use Rattle.proof_text.specs.File.{Block, File}
use Rattle.proof_text.specs.FileFault.{IsFileFault}
use Rattle.proof_text.specs.FileParts.{FitsOrder, FitsNextBlock}
use Rattle.proof_text.specs.Lines.{Line, line_text, text_of, header_lines, block_lines, file_lines}
use Rattle.proof_text.specs.Refuses.{MayBegin}
use Rattle.proof_text.specs.SmallNumbers.{HasSmallNumbers}
use Rattle.proof_text.specs.Spells.{IsBlock, IsFile, StandFrom, Spells, IsGoodLine, most_bytes}
use Rattle.proof_text.proofs.NextBlocks.{with_block, more_is_file, more_lines, behind_of, next_block, next_fits}
use Rattle.proof_text.proofs.PlainLines.{file_plain}
use Rattle.proof_text.proofs.PlainNames.{plain_names}
use Rattle.proof_text.proofs.PlainWords.{each_line}
use Rattle.text_lines.specs.Cursor.{Place}
use Rattle.text_lines.specs.Formats as format
use Rattle.text_lines.specs.Formats.{GoesOn, IsRead, Ends}
use Rattle.text_lines.specs.Found.{GoodIf, IsFault, IsFound}
use Rattle.text_lines.specs.WholeLines.{IsOneLine, join_lines, lines_in, rest_in}
use Rattle.text_lines.specs.declared.faults.Fault.{Fault}
use Rattle.text_lines.specs.declared.faults.Fault.TheVariants.{Stops, Breaks, End, Memory}
use Rattle.text_lines.proofs.Carried.{read_so}
use Rattle.text_lines.proofs.Cuts.{cut_unique, is_cut, no_feed}
use Rattle.text_lines.proofs.InTurn.{take_past}
use Rattle.text_lines.proofs.Lists.{same_rest, all_right}

two_off : (a b c d : List ℕ) (xs ys : List (List ℕ)) → a ∷ b ∷ xs ≡ c ∷ d ∷ ys → xs ≡ ys
two_off a b c d xs ys e = same_rest b d xs ys (same_rest a c (b ∷ xs) (d ∷ ys) e)

module _ (m : System) where
  abbrev Good : Line → Type 0
  Good = IsGoodLine (state_bits m)

  -- some file begins with these lines, which keep the rules where they are asked
  abbrev pub BeginsIf : Bool → List (List ℕ) → Type 0
  BeginsIf asked texts = (b : MayBegin m texts) × All (GoodIf (IsGoodLine (state_bits m)) asked) b.front

  abbrev pub IsHeaderAt : Place → List ℕ → Place → Type 0
  IsHeaderAt old order new = IsFound line_text (IsGoodLine (state_bits m)) (FitsOrder m) (header_lines m) old (Ok order) new

  abbrev pub IsFileAt : Place → File → Place → Type 0
  IsFileAt old f new = IsFound line_text (IsGoodLine (state_bits m)) (IsFile m) (file_lines m) old (Ok f) new

  abbrev pub bare : List ℕ → File
  bare order = record { order = order; blocks = [] }

  bare_is_file : (order : List ℕ) → FitsOrder m order → IsFile m (bare order)
  bare_is_file order fits = record { order = fits; blocks = All-nil (IsBlock m); rising = λ i j d less below. absurd (omega (arith, less, below)); places = tt }

  -- a header is a file without blocks
  pub bare_read : (order : List ℕ) {old new : Place} → IsHeaderAt old order new → IsFileAt old (bare order) new
  bare_read order {old} {new} found = record {
    finds = record {
      read = record { fits = bare_is_file order found.finds.read.fits; good = found.finds.read.good; texts_are = found.finds.read.texts_are };
      rest = found.finds.rest;
      line = found.finds.line;
    };
    room = found.room;
  }

  -- and one more block behind it
  pub block_read : (f : File) (b : Block) {old mid new : Place} → IsFileAt old f mid → IsFound line_text (IsGoodLine (state_bits m)) (FitsNextBlock m f.blocks) (block_lines m) mid (Ok b) new → IsFileAt old (with_block f b) new
  block_read f b {old} {mid} {new} read found = record {
    finds = record {
      read = record {
        fits = more_is_file m f b read.finds.read.fits found.finds.read.fits;
        good = subst (All (IsGoodLine (state_bits m))) (sym (more_lines m f b)) (All-append (IsGoodLine (state_bits m)) (file_lines m f) (block_lines m b) read.finds.read.good found.finds.read.good);
        texts_are = read.finds.read.texts_are ∙ ap (λ ts. map line_text (file_lines m f) ++ ts) found.finds.read.texts_are
            ∙ sym (append_assoc (map line_text (file_lines m f)) (map line_text (block_lines m b)) (lines_in new.left))
            ∙ ap (λ ts. ts ++ lines_in new.left) (sym (map-append line_text (file_lines m f) (block_lines m b)) ∙ ap (map line_text) (sym (more_lines m f b)));
      };
      rest = found.finds.rest ∙ read.finds.rest;
      line = omega (arith, read.finds.line, found.finds.line, length-append (file_lines m f) (block_lines m b), ap length (more_lines m f b));
    };
    room = omega (arith, read.room, found.room);
  }

  -- ---- the lines of a text that a file spells

  module _ (flat : IsFlat m) (bytes : List ℕ) where
    pub spelled : (f : File) → bytes ≡ text_of (file_lines m f) → (lines_in bytes ≡ map line_text (file_lines m f)) × (rest_in bytes ≡ [])
    spelled f e =
        let one : All IsOneLine (map line_text (file_lines m f)) = each_line (file_lines m f) (file_plain m (plain_names m flat) f) in
        let own = is_cut bytes in
        cut_unique (lines_in bytes) (map line_text (file_lines m f)) (rest_in bytes) [] own.each one own.last no_feed (sym own.cut ∙ e ∙ sym (append-nil (text_of (file_lines m f))))

    -- ---- a fault in the header

    header_begins : (asked : Bool) (texts : List (List ℕ)) → format.Begins line_text (GoodIf (IsGoodLine (state_bits m)) asked) (FitsOrder m) (header_lines m) texts → BeginsIf asked texts
    header_begins asked texts b = (record { file = bare b.part; is_file = bare_is_file b.part b.fits; front = b.front; rest = b.rest; lines = b.whole; texts_are = b.texts_are }, b.good)

    header_goes : (asked : Bool) (texts : List (List ℕ)) → BeginsIf asked texts → GoesOn line_text (GoodIf (IsGoodLine (state_bits m)) asked) (FitsOrder m) (header_lines m) texts
    header_goes asked texts (b, good) = record {
      part = b.file.order;
      fits = b.is_file.order;
      more = flat_map (block_lines m) b.file.blocks;
      front = b.front;
      rest = b.rest;
      whole = b.lines;
      texts_are = b.texts_are;
      good = good;
    }

    pub header_fault : (new : Place) (fault : Fault) → IsFault line_text (IsGoodLine (state_bits m)) (FitsOrder m) (header_lines m) (record { left = bytes; line = 1 }) new fault → IsFileFault m bytes new.line fault
    header_fault new (Stops l) (k, at, s) = (
      k,
      omega (arith, at),
      (s true).within,
      header_begins true (take k (lines_in bytes)) (s true).before,
      λ b. (s false).after (header_goes false (take (k + 1) (lines_in bytes)) (b, λ i d less. tt)),
    )
    header_fault new (Breaks l) (k, at, s, b) = (
      k,
      omega (arith, at),
      s.within,
      header_begins true (take k (lines_in bytes)) (record { part = s.before.part; fits = s.before.fits; front = s.before.front; rest = s.before.rest; whole = s.before.whole; texts_are = s.before.texts_are; good = s.before.good }),
      λ c. let g = header_goes true (take (k + 1) (lines_in bytes)) c in s.after (record { part = g.part; fits = g.fits; more = g.more; front = g.front; rest = g.rest; whole = g.whole; texts_are = g.texts_are; good = g.good }),
      (header_begins false (take (k + 1) (lines_in bytes)) b).0,
    )
    header_fault new End (e, at) = (
      omega (arith, at),
      header_begins true (lines_in bytes)
          (record { part = e.begins.part; fits = e.begins.fits; front = e.begins.front; rest = e.begins.rest; whole = e.begins.whole; texts_are = e.begins.texts_are; good = e.begins.good }),
      λ f is same. e.none f.order is.order (map line_text (flat_map (block_lines m) f.blocks)) ((spelled f same).0 ∙ map-append line_text (header_lines m f.order) (flat_map (block_lines m) f.blocks)),
    )
    header_fault new Memory h = tt

    -- ---- a fault in a block

    module _ (small : HasSmallNumbers m) (f : File) (mid : Place) (read : IsFileAt (record { left = bytes; line = 1 }) f mid) where
      block_begins : (asked : Bool) (vs : List (List ℕ)) → format.Begins line_text (GoodIf (IsGoodLine (state_bits m)) asked) (FitsNextBlock m f.blocks) (block_lines m) vs → BeginsIf asked (map line_text (file_lines m f) ++ vs)
      block_begins asked vs b = (
        record {
          file = with_block f b.part;
          is_file = more_is_file m f b.part read.finds.read.fits b.fits;
          front = file_lines m f ++ b.front;
          rest = b.rest;
          lines = more_lines m f b.part ∙ ap (λ ls. file_lines m f ++ ls) b.whole ∙ sym (append_assoc (file_lines m f) b.front b.rest);
          texts_are = map-append line_text (file_lines m f) b.front ∙ ap (λ ts. map line_text (file_lines m f) ++ ts) b.texts_are;
        },
        All-append (GoodIf (IsGoodLine (state_bits m)) asked) (file_lines m f) b.front (read_so asked read.finds.read).good b.good,
      )

      -- the block that stands behind those that were read
      pub record Behind (asked : Bool) (g : File) (rest : List Line) (vs : List (List ℕ)) : Type 0 where
        pub block : Block
        pub fits : FitsNextBlock m f.blocks block
        pub others : List Block
        pub lines : List Line
        pub whole : block_lines m block ++ flat_map (block_lines m) others ≡ lines ++ rest
        pub texts_are : map line_text lines ≡ vs
        pub good : All (GoodIf (IsGoodLine (state_bits m)) asked) lines

      pub block_behind : (asked : Bool) (vs : List (List ℕ)) → 0 < length vs → (g : File) → IsFile m g → (front rest : List Line) → file_lines m g ≡ front ++ rest → map line_text front ≡ map line_text (file_lines m f) ++ vs
          → All (GoodIf (IsGoodLine (state_bits m)) asked) front → Behind asked g rest vs
      block_behind asked vs some g is front rest whole are good =
          let h = behind_of (header_lines m g.order) (flat_map (block_lines m) g.blocks) front rest whole long in
          let texts = others_texts h.others h.whole in
          let b = next_block m flat small 3 f.blocks g.blocks read.finds.read.fits.blocks is.blocks read.finds.read.fits.places is.places h.others rest vs some h.left texts in
          record {
            block = b.block;
            fits = next_fits m flat small f.blocks b.block b.others (subst (All (IsBlock m)) b.blocks_are is.blocks)
                (subst (AllPairs (λ (x y : Block). x.spec < y.spec)) b.blocks_are is.rising) (subst (StandFrom m 3) b.blocks_are is.places);
            others = b.others;
            lines = b.lines;
            whole = b.whole;
            texts_are = b.texts_are;
            good = all_right (GoodIf (IsGoodLine (state_bits m)) asked) (flat_map (block_lines m) f.blocks) b.lines
                (subst (All (GoodIf (IsGoodLine (state_bits m)) asked)) b.front_is (all_right (GoodIf (IsGoodLine (state_bits m)) asked) (header_lines m g.order) h.others (subst (All (GoodIf (IsGoodLine (state_bits m)) asked)) h.whole good)));
          }
        where
          split : map line_text front ≡ map line_text (header_lines m f.order) ++ (map line_text (flat_map (block_lines m) f.blocks) ++ vs)
          split =
              are ∙ ap (λ ts. ts ++ vs) (map-append line_text (header_lines m f.order) (flat_map (block_lines m) f.blocks))
              ∙ append_assoc (map line_text (header_lines m f.order)) (map line_text (flat_map (block_lines m) f.blocks)) vs

          long : length (header_lines m g.order) ≤ length front
          long = omega (arith, ap length split, length-map front line_text)

          others_texts : (others : List Line) → front ≡ header_lines m g.order ++ others → map line_text others ≡ map line_text (flat_map (block_lines m) f.blocks) ++ vs
          others_texts others e =
              let both : map line_text (header_lines m g.order) ++ map line_text others ≡ map line_text (header_lines m f.order) ++ (map line_text (flat_map (block_lines m) f.blocks) ++ vs) =
              sym (map-append line_text (header_lines m g.order) others) ∙ sym (ap (map line_text) e) ∙ split in
              two_off _ _ _ _ _ _ both

      block_goes : (asked : Bool) (vs : List (List ℕ)) → 0 < length vs → BeginsIf asked (map line_text (file_lines m f) ++ vs) → GoesOn line_text (GoodIf (IsGoodLine (state_bits m)) asked) (FitsNextBlock m f.blocks) (block_lines m) vs
      block_goes asked vs some (b, good) =
          let h = block_behind asked vs some b.file b.is_file b.front b.rest b.lines b.texts_are good in
          record { part = h.block; fits = h.fits; more = flat_map (block_lines m) h.others; front = h.lines; rest = b.rest; whole = h.whole; texts_are = h.texts_are; good = h.good }

      pub texts_are : lines_in bytes ≡ map line_text (file_lines m f) ++ lines_in mid.left
      texts_are = read.finds.read.texts_are

      pub past : (n k : ℕ) → n ≡ length (file_lines m f) + k → take n (lines_in bytes) ≡ map line_text (file_lines m f) ++ take k (lines_in mid.left)
      past n k e = take_past line_text (file_lines m f) (lines_in bytes) (lines_in mid.left) texts_are n k e

      ahead_within : (k : ℕ) → k < length (lines_in mid.left) → length (file_lines m f) + k < length (lines_in bytes)
      ahead_within k less = omega (arith, less, ap length texts_are, length-append (map line_text (file_lines m f)) (lines_in mid.left), length-map (file_lines m f) line_text)

      some_taken : (k : ℕ) → k < length (lines_in mid.left) → 0 < length (take (k + 1) (lines_in mid.left))
      some_taken k less = omega (arith, length-take-le (k + 1) (lines_in mid.left) (omega (arith, less)))

      begins_past : (asked : Bool) (n k : ℕ) → n ≡ length (file_lines m f) + k → format.Begins line_text (GoodIf (IsGoodLine (state_bits m)) asked) (FitsNextBlock m f.blocks) (block_lines m) (take k (lines_in mid.left))
          → BeginsIf asked (take n (lines_in bytes))
      begins_past asked n k e b = subst (BeginsIf asked) (sym (past n k e)) (block_begins asked (take k (lines_in mid.left)) b)

      goes_past : (asked : Bool) (n k : ℕ) → n ≡ length (file_lines m f) + (k + 1) → k < length (lines_in mid.left) → BeginsIf asked (take n (lines_in bytes))
          → GoesOn line_text (GoodIf (IsGoodLine (state_bits m)) asked) (FitsNextBlock m f.blocks) (block_lines m) (take (k + 1) (lines_in mid.left))
      goes_past asked n k e less b = block_goes asked (take (k + 1) (lines_in mid.left)) (some_taken k less) (subst (BeginsIf asked) (past n (k + 1) e) b)

      no_file : (mid.left ≡ [] → ⊥) → Ends line_text (IsGoodLine (state_bits m)) (FitsNextBlock m f.blocks) (block_lines m) (lines_in mid.left) → (g : File) → IsFile m g → bytes ≡ text_of (file_lines m g) → ⊥
      no_file more e g is same = go (lines_in mid.left) refl
        where
          own : (lines_in bytes ≡ map line_text (file_lines m g)) × (rest_in bytes ≡ [])
          own = spelled g same

          go : (vs : List (List ℕ)) → lines_in mid.left ≡ vs → ⊥
          go [] none =
              more ((is_cut mid.left).cut ∙ ap (λ ts. join_lines ts ++ rest_in mid.left) none ∙ read.finds.rest ∙ own.1)
          go (v ∷ vs) are =
              let front_texts : map line_text (file_lines m g) ≡ map line_text (file_lines m f) ++ (v ∷ vs) = sym own.0 ∙ texts_are ∙ ap (λ ts. map line_text (file_lines m f) ++ ts) are in
              let h = block_behind false (v ∷ vs) (omega arith) g is (file_lines m g) [] (sym (append-nil (file_lines m g))) front_texts (λ i d less. tt) in
              e.none h.block h.fits (map line_text (flat_map (block_lines m) h.others))
              (are ∙ sym h.texts_are ∙ ap (map line_text) (sym (append-nil h.lines) ∙ sym h.whole) ∙ map-append line_text (block_lines m h.block) (flat_map (block_lines m) h.others))

      pub block_fault : (mid.left ≡ [] → ⊥) → (new : Place) (fault : Fault) → IsFault line_text (IsGoodLine (state_bits m)) (FitsNextBlock m f.blocks) (block_lines m) mid new fault → IsFileFault m bytes new.line fault
      block_fault more new (Stops l) (k, at, s) = (
        length (file_lines m f) + k,
        omega (arith, at, read.finds.line),
        ahead_within k (s true).within,
        begins_past true (length (file_lines m f) + k) k refl (s true).before,
        λ b. (s false).after (goes_past false (length (file_lines m f) + k + 1) k (omega arith) (s false).within (b, λ i d less. tt)),
      )
      block_fault more new (Breaks l) (k, at, s, b) = (
        length (file_lines m f) + k,
        omega (arith, at, read.finds.line),
        ahead_within k s.within,
        begins_past true (length (file_lines m f) + k) k refl
            (record { part = s.before.part; fits = s.before.fits; front = s.before.front; rest = s.before.rest; whole = s.before.whole; texts_are = s.before.texts_are; good = s.before.good }),
        λ c. let g = goes_past true (length (file_lines m f) + k + 1) k (omega arith) s.within c in s.after (record { part = g.part; fits = g.fits; more = g.more; front = g.front; rest = g.rest; whole = g.whole; texts_are = g.texts_are; good = g.good }),
        (begins_past false (length (file_lines m f) + k + 1) (k + 1) (omega arith) b).0,
      )
      block_fault more new End (e, at) = (
        omega (arith, at, read.finds.line, ap length texts_are, length-append (map line_text (file_lines m f)) (lines_in mid.left), length-map (file_lines m f) line_text),
        subst (BeginsIf true) (sym texts_are) (block_begins true (lines_in mid.left)
            (record { part = e.begins.part; fits = e.begins.fits; front = e.begins.front; rest = e.begins.rest; whole = e.begins.whole; texts_are = e.begins.texts_are; good = e.begins.good })),
        no_file more e,
      )
      block_fault more new Memory h = tt

-- a file that was read up to the end of the text
pub file_spelled : (m : System) (bytes : List ℕ) (f : File) (last : Place) → IsFileAt m (record { left = bytes; line = 1 }) f last → last.left ≡ [] → length bytes ≤ most_bytes → Spells m f bytes
file_spelled m bytes f last read none short =
    let lines : lines_in bytes ≡ map line_text (file_lines m f) =
    read.finds.read.texts_are ∙ ap (λ (t : List ℕ). map line_text (file_lines m f) ++ lines_in t) none ∙ append-nil (map line_text (file_lines m f)) in
    let rest : rest_in bytes ≡ [] = sym read.finds.rest ∙ ap (λ (t : List ℕ). rest_in t) none in
    record {
      is_file = read.finds.read.fits;
      nodes = read.finds.read.good;
      text = (is_cut bytes).cut ∙ ap (λ ts. join_lines ts ++ rest_in bytes) lines ∙ ap (λ r. text_of (file_lines m f) ++ r) rest ∙ append-nil (text_of (file_lines m f));
      short = short;
    }
