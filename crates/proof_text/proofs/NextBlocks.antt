-- A file with one more block, and the block of a file behind ones that are known.
use Rattle.std.proofs.Common.{◌≡◌, inl, inr, ℕ, ◌+◌, ◌<◌, ◌≤◌, List, [], ◌∷◌, ◌++◌, length, map, flat_map, get_or, refl, sym, ◌∙◌, ap, subst, arith, append_assoc, append-nil, length-append}
use Rattle.std.specs.Prelude.{All, AllPairs}
use Rattle.std.proofs.lemmas.Bool.{cases_lt}
use Rattle.std.proofs.lemmas.Grind.{flat_map-append}
use Rattle.std.proofs.lemmas.List.{map-append, length-map, get_or_append_left, get_or-append-add}
use Rattle.std.proofs.lemmas.List.Elements.{All-head, All-tail, All-push}
use Rattle.kripke_model.specs.Flat.{IsFlat}
use Rattle.kripke_model.specs.System.{System, constraint_count}
use Rattle.proof_text.specs.File.{Block, File}
use Rattle.proof_text.specs.FileParts.{FitsNextBlock}
use Rattle.proof_text.specs.Lines.{Line, line_text, words_of, block_lines, header_lines, file_lines}
use Rattle.proof_text.specs.SmallNumbers.{HasSmallNumbers}
use Rattle.proof_text.specs.Spells.{IsBlock, IsFile, StandFrom}
use Rattle.proof_text.proofs.KnownBlocks.{block_known}
use Rattle.proof_text.proofs.KnownFits.{block_fits}
use Rattle.proof_text.proofs.KnownStates.{states_known}
use Rattle.proof_text.proofs.PlainLines.{ArePlain, NamesArePlain, file_plain}
use Rattle.proof_text.proofs.PlainNames.{plain_names}
use Rattle.proof_text.proofs.PlainWords.{IsPlainLine}
use Rattle.proof_text.proofs.WordsOf.{each_word}
use Rattle.text_lines.specs.Words.{words_in}
use Rattle.text_lines.proofs.Lists.{same_first, same_rest, all_right}
use Rattle.text_lines.proofs.Spaced.{words_of_joined}

-- ---- texts and words

words_back : (ls : List Line) → ArePlain ls → map (λ t. words_in t) (map line_text ls) ≡ map words_of ls
words_back [] plain = refl
words_back (l ∷ ls) plain =
    let p = All-head IsPlainLine l ls plain in
    let first : words_in (line_text l) ≡ words_of l = words_of_joined (words_of l) (each_word (words_of l) p.0) p.1 in
    let rest = words_back ls (All-tail IsPlainLine l ls plain) in
    (λ i. first i ∷ rest i)

-- lines with texts behind them, as words
words_behind : (ls : List Line) → ArePlain ls → (behind : List (List ℕ)) → map (λ t. words_in t) (map line_text ls ++ behind) ≡ map words_of ls ++ map (λ t. words_in t) behind
words_behind ls plain behind = map-append (λ t. words_in t) (map line_text ls) behind ∙ ap (λ ws. ws ++ map (λ t. words_in t) behind) (words_back ls plain)

block_plain : (m : System) → NamesArePlain m → (b : Block) → ArePlain (block_lines m b)
block_plain m names b =
    subst (All IsPlainLine) (append-nil (block_lines m b))
    (all_right IsPlainLine (header_lines m []) (flat_map (block_lines m) (b ∷ [])) (file_plain m names (record { order = []; blocks = b ∷ [] })))

-- ---- lists

-- a list that goes on behind another one
pub record Behind {A : Type 0} (xs more front rest : List A) : Type 0 where
  pub others : List A
  pub whole : front ≡ xs ++ others
  pub left : more ≡ others ++ rest

pub behind_of : {A : Type 0} (xs more front rest : List A) → xs ++ more ≡ front ++ rest → length xs ≤ length front → Behind xs more front rest
behind_of [] more front rest e le = record { others = front; whole = refl; left = e }
behind_of (x ∷ xs) more [] rest e le = absurd (omega (arith, le))
behind_of (x ∷ xs) more (y ∷ front) rest e le =
    let l = behind_of xs more front rest (same_rest x y (xs ++ more) (front ++ rest) e) (omega (arith, le)) in
    record {
      others = l.others;
      whole = ap (λ z. z ∷ front) (sym (same_first x y (xs ++ more) (front ++ rest) e)) ∙ ap (λ zs. x ∷ zs) l.whole;
      left = l.left;
    }

cancel : {A : Type 0} (xs ys zs : List A) → xs ++ ys ≡ xs ++ zs → ys ≡ zs
cancel [] ys zs e = e
cancel (x ∷ xs) ys zs e = cancel xs ys zs (same_rest x x (xs ++ ys) (xs ++ zs) e)

-- ---- places and specifications

places_split : (m : System) (n : ℕ) (xs : List Block) (b : Block) (ys : List Block) → StandFrom m n (xs ++ b ∷ ys) → b.first ≡ n + length (flat_map (block_lines m) xs)
places_split m n [] b ys s = omega (arith, s.0)
places_split m n (x ∷ xs) b ys s =
    let h = places_split m (n + length (block_lines m x)) xs b ys s.1 in
    omega (arith, h, length-append (block_lines m x) (flat_map (block_lines m) xs))

places_more : (m : System) (n : ℕ) (xs : List Block) (b : Block) → StandFrom m n xs → b.first ≡ n + length (flat_map (block_lines m) xs) → StandFrom m n (xs ++ b ∷ [])
places_more m n [] b s e = (omega (arith, e), tt)
places_more m n (x ∷ xs) b s e =
    (s.0, places_more m (n + length (block_lines m x)) xs b s.1 (omega (arith, e, length-append (block_lines m x) (flat_map (block_lines m) xs))))

abbrev Below : Block → Block → Type 0
Below a b = a.spec < b.spec

rising_split : (xs : List Block) (b : Block) (ys : List Block) → AllPairs Below (xs ++ b ∷ ys) → All (λ a. Below a b) xs
rising_split xs b ys h k d less =
    let at = h k (length xs) d less (omega (arith, length-append xs (b ∷ ys))) in
    let e : get_or (xs ++ b ∷ ys) k d ≡ get_or xs k d = get_or_append_left xs (b ∷ ys) d k less in
    let here : length xs ≡ length xs + 0 = omega arith in
    let f : get_or (xs ++ b ∷ ys) (length xs) d ≡ b = ap (λ i. get_or (xs ++ b ∷ ys) i d) here ∙ get_or-append-add xs (b ∷ ys) 0 d in
    subst (λ a. Below a b) e (subst (λ z. Below (get_or (xs ++ b ∷ ys) k d) z) f at)

rising_more : (xs : List Block) (b : Block) → AllPairs Below xs → All (λ a. Below a b) xs → AllPairs Below (xs ++ b ∷ [])
rising_more xs b h below i j d less within = elim (cases_lt j (length xs)) [
  | inl inside ↦
      let e : get_or (xs ++ b ∷ []) i d ≡ get_or xs i d = get_or_append_left xs (b ∷ []) d i (omega (arith, less, inside)) in
      let f : get_or (xs ++ b ∷ []) j d ≡ get_or xs j d = get_or_append_left xs (b ∷ []) d j inside in
      subst (λ a. Below a (get_or (xs ++ b ∷ []) j d)) (sym e) (subst (λ z. Below (get_or xs i d) z) (sym f) (h i j d less inside))
  | inr last ↦
      let here : j ≡ length xs + 0 = omega (arith, last, within, length-append xs (b ∷ [])) in
      let e : get_or (xs ++ b ∷ []) i d ≡ get_or xs i d = get_or_append_left xs (b ∷ []) d i (omega (arith, less, here)) in
      let f : get_or (xs ++ b ∷ []) j d ≡ b = ap (λ k. get_or (xs ++ b ∷ []) k d) here ∙ get_or-append-add xs (b ∷ []) 0 d in
      subst (λ a. Below a (get_or (xs ++ b ∷ []) j d)) (sym e) (subst (λ z. Below (get_or xs i d) z) (sym f) (below i d (omega (arith, less, here))))
]

-- ---- a file with one more block

abbrev pub with_block : File → Block → File
with_block f b = record { order = f.order; blocks = f.blocks ++ b ∷ [] }

pub more_is_file : (m : System) (f : File) (b : Block) → IsFile m f → FitsNextBlock m f.blocks b → IsFile m (with_block f b)
more_is_file m f b is fits = record {
  order = is.order;
  blocks = All-push (IsBlock m) f.blocks b is.blocks fits.0;
  rising = rising_more f.blocks b is.rising fits.1;
  places = places_more m 3 f.blocks b is.places fits.2;
}

pub more_lines : (m : System) (f : File) (b : Block) → file_lines m (with_block f b) ≡ file_lines m f ++ block_lines m b
more_lines m f b =
    ap (λ ls. header_lines m f.order ++ ls) (flat_map-append (block_lines m) f.blocks (b ∷ []) ∙ ap (λ ls. flat_map (block_lines m) f.blocks ++ ls) (append-nil (block_lines m b)))
    ∙ sym (append_assoc (header_lines m f.order) (flat_map (block_lines m) f.blocks) (block_lines m b))

-- ---- blocks that begin with the same lines

module _ (m : System) (flat : IsFlat m) (small : HasSmallNumbers m) where
  same_block : (a b : Block) → a.first ≡ b.first → IsBlock m a → IsBlock m b → (behind after : List (List ℕ)) → map line_text (block_lines m a) ++ behind ≡ map line_text (block_lines m b) ++ after → a ≡ b
  same_block a b first p q behind after e =
      let few : constraint_count m ≤ 4294967295 = omega (arith, flat.limits.constraints) in
      let names = plain_names m flat in
      let shown : map words_of (block_lines m a) ++ map (λ t. words_in t) behind ≡ map words_of (block_lines m b) ++ map (λ t. words_in t) after =
      sym (words_behind (block_lines m a) (block_plain m names a) behind) ∙ ap (map (λ t. words_in t)) e ∙ words_behind (block_lines m b) (block_plain m names b) after in
      (block_known m few (states_known m flat small) a b first (block_fits m flat a p) (block_fits m flat b q) (map (λ t. words_in t) behind) (map (λ t. words_in t) after) shown).0

  -- the block behind these
  pub record NextBlock (xs ys : List Block) (front rest : List Line) (texts : List (List ℕ)) : Type 0 where
    pub block : Block
    pub others : List Block
    pub blocks_are : ys ≡ xs ++ block ∷ others
    pub lines : List Line
    pub front_is : front ≡ flat_map (block_lines m) xs ++ lines
    pub whole : block_lines m block ++ flat_map (block_lines m) others ≡ lines ++ rest
    pub texts_are : map line_text lines ≡ texts

  pub next_block : (n : ℕ) (xs ys : List Block) → All (IsBlock m) xs → All (IsBlock m) ys → StandFrom m n xs → StandFrom m n ys → (front rest : List Line) (texts : List (List ℕ)) → 0 < length texts
      → flat_map (block_lines m) ys ≡ front ++ rest → map line_text front ≡ map line_text (flat_map (block_lines m) xs) ++ texts → NextBlock xs ys front rest texts
  next_block n [] [] p q s t front rest texts some whole are =
      absurd (omega (arith, some, ap length whole, length-append front rest, ap length are, length-map front line_text))
  next_block n [] (y ∷ ys) p q s t front rest texts some whole are =
      record { block = y; others = ys; blocks_are = refl; lines = front; front_is = refl; whole = whole; texts_are = are }
  next_block n (x ∷ xs) [] p q s t front rest texts some whole are =
      absurd (omega (arith, some, ap length whole, length-append front rest, ap length are, length-map front line_text, length-append (map line_text (flat_map (block_lines m) (x ∷ xs))) texts))
  next_block n (x ∷ xs) (y ∷ ys) p q s t front rest texts some whole are =
      go (λ zs q t others rest more are. next_block (n + length (block_lines m x)) xs zs (All-tail (IsBlock m) x xs p) q s.1 t others rest texts some more are)
      y same ys (All-tail (IsBlock m) y ys q) t.1 whole
    where
      front_texts : map line_text front ≡ map line_text (block_lines m x) ++ (map line_text (flat_map (block_lines m) xs) ++ texts)
      front_texts = are ∙ ap (λ ts. ts ++ texts) (map-append line_text (block_lines m x) (flat_map (block_lines m) xs)) ∙ append_assoc (map line_text (block_lines m x)) (map line_text (flat_map (block_lines m) xs)) texts

      all_texts : map line_text (block_lines m y) ++ map line_text (flat_map (block_lines m) ys) ≡ map line_text (block_lines m x) ++ ((map line_text (flat_map (block_lines m) xs) ++ texts) ++ map line_text rest)
      all_texts =
          sym (map-append line_text (block_lines m y) (flat_map (block_lines m) ys)) ∙ ap (map line_text) whole ∙ map-append line_text front rest
          ∙ ap (λ ts. ts ++ map line_text rest) front_texts ∙ append_assoc (map line_text (block_lines m x)) (map line_text (flat_map (block_lines m) xs) ++ texts) (map line_text rest)

      same : y ≡ x
      same = same_block y x (t.0 ∙ sym s.0) (All-head (IsBlock m) y ys q) (All-head (IsBlock m) x xs p) (map line_text (flat_map (block_lines m) ys)) ((map line_text (flat_map (block_lines m) xs) ++ texts) ++ map line_text rest) all_texts

      long : length (block_lines m x) ≤ length front
      long = omega (arith, ap length front_texts, length-map front line_text, length-append (map line_text (block_lines m x)) (map line_text (flat_map (block_lines m) xs) ++ texts), length-map (block_lines m x) line_text)

      found : ((zs : List Block) → All (IsBlock m) zs → StandFrom m (n + length (block_lines m x)) zs → (others rest : List Line) → flat_map (block_lines m) zs ≡ others ++ rest → map line_text others ≡ map line_text (flat_map (block_lines m) xs) ++ texts → NextBlock xs zs others rest texts) → (ys : List Block) → All (IsBlock m) ys → StandFrom m (n + length (block_lines m x)) ys → block_lines m x ++ flat_map (block_lines m) ys ≡ front ++ rest → NextBlock (x ∷ xs) (x ∷ ys) front rest texts
      found later ys q t whole =
          let h = behind_of (block_lines m x) (flat_map (block_lines m) ys) front rest whole long in
          let others_are : map line_text h.others ≡ map line_text (flat_map (block_lines m) xs) ++ texts =
          cancel (map line_text (block_lines m x)) (map line_text h.others) (map line_text (flat_map (block_lines m) xs) ++ texts) (sym (map-append line_text (block_lines m x) h.others) ∙ sym (ap (map line_text) h.whole) ∙ front_texts) in
          let r = later ys q t h.others rest h.left others_are in
          record {
            block = r.block;
            others = r.others;
            blocks_are = ap (λ bs. x ∷ bs) r.blocks_are;
            lines = r.lines;
            front_is = h.whole ∙ ap (λ ls. block_lines m x ++ ls) r.front_is ∙ sym (append_assoc (block_lines m x) (flat_map (block_lines m) xs) r.lines);
            whole = r.whole;
            texts_are = r.texts_are;
          }

      go : ((zs : List Block) → All (IsBlock m) zs → StandFrom m (n + length (block_lines m x)) zs → (others rest : List Line) → flat_map (block_lines m) zs ≡ others ++ rest → map line_text others ≡ map line_text (flat_map (block_lines m) xs) ++ texts → NextBlock xs zs others rest texts) → (z : Block) → z ≡ x → (ys : List Block) → All (IsBlock m) ys → StandFrom m (n + length (block_lines m z)) ys → block_lines m z ++ flat_map (block_lines m) ys ≡ front ++ rest → NextBlock (x ∷ xs) (z ∷ ys) front rest texts
      go later z e =
          subst (λ z. (ys : List Block) → All (IsBlock m) ys → StandFrom m (n + length (block_lines m z)) ys → block_lines m z ++ flat_map (block_lines m) ys ≡ front ++ rest → NextBlock (x ∷ xs) (z ∷ ys) front rest texts) (sym e)
          (found later)

  -- it fits behind them
  pub next_fits : (xs : List Block) (b : Block) (others : List Block) → All (IsBlock m) (xs ++ b ∷ others) → AllPairs Below (xs ++ b ∷ others) → StandFrom m 3 (xs ++ b ∷ others) → FitsNextBlock m xs b
  next_fits xs b others blocks rising places = (block_at xs b others blocks, rising_split xs b others rising, places_split m 3 xs b others places)
    where
      block_at : (xs : List Block) (b : Block) (others : List Block) → All (IsBlock m) (xs ++ b ∷ others) → IsBlock m b
      block_at [] b others p = All-head (IsBlock m) b others p
      block_at (x ∷ xs) b others p = block_at xs b others (All-tail (IsBlock m) x (xs ++ b ∷ others) p)
