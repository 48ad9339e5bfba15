-- The proof file of what is found, with one finding more.
use Rattle.std.proofs.Common.{◌≡◌, ◌∙◌, inl, inr, ◌≤◌, ◌<◌, ℕ, ◌+◌, List, [], ◌∷◌, ◌++◌, length, Some, None, refl, sym, ap, subst, arith, append_assoc, append-nil, length-append}
use Rattle.std.specs.Prelude.{All, AllPairs, flat_map, true}
use Rattle.std.specs.List.{sum_by}
use Rattle.std.proofs.lemmas.Grind.{flat_map-append}
use Rattle.std.proofs.lemmas.List.Concat.{flat_map-cons, length-flat_map}
use Rattle.std.proofs.lemmas.List.Elements.{All-nil, All-cons, All-weaker}
use Rattle.std.proofs.lemmas.List.Kept.{AllPairs-cons}
use Rattle.std.proofs.lemmas.List.Sums.{sum_by-append, sum_by-cons}
use Rattle.kripke_model.specs.System.{System}
use Rattle.proof_text.specs.File.{Block}
use Rattle.proof_text.specs.Lines.{text_of, header_lines, block_lines}
use Rattle.proof_text.specs.Spells.{Spells, StandFrom, most_bytes}
use Rattle.proof_text.specs.Written.{IsWritable, AreSpelled, own_order, written_text}
use Rattle.smv_texts.specs.Report.{Finding, is_unknown}
use Rattle.spec_verdicts.specs.Exports.{header_size, block_size, ProvesOutcome, Adds, AreBlocksOf, Exports}

-- ---- sizes

module _ (m : System) where
  one_size : (b : Block) → sum_by (block_size m) (b ∷ []) ≡ block_size m b
  one_size b = let e = sum_by-cons (block_size m) b [] in omega (arith, e)

  -- how long the text of the blocks is
  pub written_size : (blocks : List Block) → length (written_text m blocks) ≡ header_size m + sum_by (block_size m) blocks
  written_size blocks =
      length-append (text_of (header_lines m (own_order m))) (flat_map (λ b. text_of (block_lines m b)) blocks)
      ∙ ap (λ (n : ℕ). header_size m + n) (length-flat_map (λ b. text_of (block_lines m b)) blocks)

  -- with one block more
  written_more : (blocks : List Block) (b : Block) → written_text m (blocks ++ b ∷ []) ≡ written_text m blocks ++ text_of (block_lines m b)
  written_more blocks b =
      let one = flat_map-cons (λ (x : Block). text_of (block_lines m x)) b [] ∙ append-nil (text_of (block_lines m b)) in
      ap (λ (rest : List ℕ). text_of (header_lines m (own_order m)) ++ rest)
      (flat_map-append (λ (x : Block). text_of (block_lines m x)) blocks (b ∷ []) ∙ ap (λ (last : List ℕ). flat_map (λ (x : Block). text_of (block_lines m x)) blocks ++ last) one)
      ∙ sym (append_assoc (text_of (header_lines m (own_order m))) (flat_map (λ (x : Block). text_of (block_lines m x)) blocks) (text_of (block_lines m b)))

-- ---- the blocks of the findings

-- those of one finding more
pub blocks_more : (m : System) (j size : ℕ) (fs : List Finding) (f : Finding) (blocks added : List Block) → AreBlocksOf m j size fs blocks
    → Adds m (j + length fs) (size + sum_by (block_size m) blocks) f added → AreBlocksOf m j size (fs ++ f ∷ []) (blocks ++ added)
blocks_more m j size [] f blocks added none adds = (
  added,
  [],
  ap (λ (bs : List Block). bs ++ added) none ∙ sym (append-nil added),
  subst (λ (k : ℕ). Adds m k size f added) (omega arith)
      (subst (λ (k : ℕ). Adds m (j + 0) k f added) (let e = ap (sum_by (block_size m)) none in omega (arith, e)) adds),
  refl,
)
blocks_more m j size (g ∷ fs) f blocks added (first, rest, is, here, more) adds =
    let all : sum_by (block_size m) blocks ≡ sum_by (block_size m) first + sum_by (block_size m) rest = ap (sum_by (block_size m)) is ∙ sum_by-append (block_size m) first rest in (
      first,
      rest ++ added,
      ap (λ (bs : List Block). bs ++ added) is ∙ append_assoc first rest added,
      here,
      blocks_more m (j + 1) (size + sum_by (block_size m) first) fs f rest added more
          (subst (λ (k : ℕ). Adds m k (size + sum_by (block_size m) first + sum_by (block_size m) rest) f added) (omega arith)
          (subst (λ (k : ℕ). Adds m (j + length (g ∷ fs)) k f added) (omega (arith, all)) adds)),
    )

-- each can be written
writable_of : (m : System) (j size : ℕ) (fs : List Finding) (blocks : List Block) → AreBlocksOf m j size fs blocks → All (IsWritable m) blocks
writable_of m j size [] blocks none = subst (All (IsWritable m)) (sym none) (All-nil (IsWritable m))
writable_of m j size (f ∷ fs) blocks ([], rest, is, here, more) = subst (All (IsWritable m)) (sym is) (writable_of m (j + 1) _ fs rest more)
writable_of m j size (f ∷ fs) blocks (b ∷ [], rest, is, here, more) =
    subst (All (IsWritable m)) (sym is) (All-cons (IsWritable m) b rest here.proves.writable (writable_of m (j + 1) _ fs rest more))
writable_of m j size (f ∷ fs) blocks (b ∷ c ∷ bs, rest, is, here, more) = absurd here

-- each is of a specification from j on
from_first : (m : System) (j k size : ℕ) (fs : List Finding) (blocks : List Block) → k ≤ j → AreBlocksOf m j size fs blocks → All (λ (b : Block). k ≤ b.spec) blocks
from_first m j k size [] blocks le none = subst (All (λ (b : Block). k ≤ b.spec)) (sym none) (All-nil (λ (b : Block). k ≤ b.spec))
from_first m j k size (f ∷ fs) blocks le ([], rest, is, here, more) =
    subst (All (λ (b : Block). k ≤ b.spec)) (sym is) (from_first m (j + 1) k _ fs rest (omega (arith, le)) more)
from_first m j k size (f ∷ fs) blocks le (b ∷ [], rest, is, here, more) =
    let this = here.proves.spec in
    subst (All (λ (b : Block). k ≤ b.spec)) (sym is)
    (All-cons (λ (b : Block). k ≤ b.spec) b rest (omega (arith, le, this)) (from_first m (j + 1) k _ fs rest (omega (arith, le)) more))
from_first m j k size (f ∷ fs) blocks le (b ∷ c ∷ bs, rest, is, here, more) = absurd here

-- their specifications rise
rising_of : (m : System) (j size : ℕ) (fs : List Finding) (blocks : List Block) → AreBlocksOf m j size fs blocks → AllPairs (λ (a b : Block). a.spec < b.spec) blocks
rising_of m j size [] blocks none = subst (AllPairs (λ (a b : Block). a.spec < b.spec)) (sym none) (λ i k d less within. absurd (omega (arith, within, less)))
rising_of m j size (f ∷ fs) blocks ([], rest, is, here, more) = subst (AllPairs (λ (a b : Block). a.spec < b.spec)) (sym is) (rising_of m (j + 1) _ fs rest more)
rising_of m j size (f ∷ fs) blocks (b ∷ [], rest, is, here, more) =
    let this = here.proves.spec in
    subst (AllPairs (λ (a b : Block). a.spec < b.spec)) (sym is)
    (AllPairs-cons (λ (a b : Block). a.spec < b.spec) b rest
    (All-weaker (λ (x : Block). j + 1 ≤ x.spec) (λ (x : Block). b.spec < x.spec) (λ x le. omega (arith, le, this)) rest (from_first m (j + 1) (j + 1) _ fs rest (omega arith) more))
    (rising_of m (j + 1) _ fs rest more))
rising_of m j size (f ∷ fs) blocks (b ∷ c ∷ bs, rest, is, here, more) = absurd here

-- ---- places

-- the block with its first line there
abbrev at_line : Block → ℕ → Block
at_line b n = record { spec = b.spec; nodes = b.nodes; proof = b.proof; first = n }

stands_more : (m : System) (n : ℕ) (blocks : List Block) (b : Block) → StandFrom m n blocks → b.first ≡ n + sum_by (λ b. length (block_lines m b)) blocks → StandFrom m n (blocks ++ b ∷ [])
stands_more m n [] b none here = (omega (arith, here), tt)
stands_more m n (c ∷ blocks) b stands here =
    let e = sum_by-cons (λ b. length (block_lines m b)) c blocks in
    (stands.0, stands_more m (n + length (block_lines m c)) blocks b stands.1 (omega (arith, here, e)))

-- ---- the file

-- the file of nothing
pub exports_none : (m : System) (bytes : List ℕ) → AreSpelled m → bytes ≡ text_of (header_lines m (own_order m)) → Exports m [] bytes
exports_none m bytes law is =
    let text : bytes ≡ written_text m [] = is ∙ sym (append-nil (text_of (header_lines m (own_order m)))) in
    record {
      blocks = [];
      blocks_of = refl;
      text = text;
      spelled = λ short. subst (Spells m (record { order = own_order m; blocks = [] })) (sym text)
          (law [] (All-nil (IsWritable m)) (λ i k d less within. absurd (omega (arith, within, less))) tt (let e = ap length (append-nil (text_of (header_lines m (own_order m)))) in omega (arith, short, e)));
    }

-- a finding that adds nothing
pub exports_same : (m : System) (fs : List Finding) (f : Finding) (bytes : List ℕ) → ((blocks : List Block) → bytes ≡ written_text m blocks → Adds m (1 + length fs) (header_size m + sum_by (block_size m) blocks) f []) → Exports m fs bytes → Exports m (fs ++ f ∷ []) bytes
exports_same m fs f bytes adds e = record {
  blocks = e.blocks;
  blocks_of = subst (AreBlocksOf m 1 (header_size m) (fs ++ f ∷ [])) (append-nil e.blocks) (blocks_more m 1 (header_size m) fs f e.blocks [] e.blocks_of (adds e.blocks e.text));
  text = e.text;
  spelled = e.spelled;
}

-- one that is unknown
pub exports_unknown : (m : System) (fs : List Finding) (f : Finding) (bytes : List ℕ) → is_unknown f ≡ true → f.left_out ≡ None → Exports m fs bytes → Exports m (fs ++ f ∷ []) bytes
exports_unknown m fs f bytes unknown told e = exports_same m fs f bytes (λ blocks text. inl (record { unknown = unknown; told = told })) e

-- one whose proof is left out
pub exports_long : (m : System) (fs : List Finding) (f : Finding) (bytes : List ℕ) (b : Block) (size : ℕ) → ProvesOutcome m (1 + length fs) f.outcome b → f.left_out ≡ Some size
    → size ≡ length bytes + block_size m b → most_bytes < size → Exports m fs bytes → Exports m (fs ++ f ∷ []) bytes
exports_long m fs f bytes b size proves told size_is long e =
    exports_same m fs f bytes
    (λ blocks text.
    let all = ap length text ∙ written_size m blocks in
    let same : size ≡ header_size m + sum_by (block_size m) blocks + block_size m b = omega (arith, all, size_is) in
    inr (record { block = b; proves = proves; long = subst (λ (n : ℕ). most_bytes < n) same long; told = told ∙ ap Some same })) e

-- one whose proof is added
pub exports_more : (m : System) (fs : List Finding) (f : Finding) (bytes : List ℕ) (b : Block) → AreSpelled m → ProvesOutcome m (1 + length fs) f.outcome b → f.left_out ≡ None
    → length bytes + block_size m b ≤ most_bytes → Exports m fs bytes → Exports m (fs ++ f ∷ []) (bytes ++ text_of (block_lines m b))
exports_more m fs f bytes b law proves told short e =
    let blocks = e.blocks in
    let c : Block = at_line b (3 + sum_by (λ b. length (block_lines m b)) blocks) in
    let proves_c : ProvesOutcome m (1 + length fs) f.outcome c = record { spec = proves.spec; claim = proves.claim; writable = record { shape = proves.writable.shape; sets = proves.writable.sets; nodes = proves.writable.nodes }; proved = proves.proved } in
    let size = ap length e.text ∙ written_size m blocks in
    let fits : header_size m + sum_by (block_size m) blocks + block_size m c ≤ most_bytes = omega (arith, size, short) in
    let all : AreBlocksOf m 1 (header_size m) (fs ++ f ∷ []) (blocks ++ c ∷ []) = blocks_more m 1 (header_size m) fs f blocks (c ∷ []) e.blocks_of (record { proves = proves_c; short = fits; told = told }) in
    let text : bytes ++ text_of (block_lines m b) ≡ written_text m (blocks ++ c ∷ []) = ap (λ (front : List ℕ). front ++ text_of (block_lines m b)) e.text ∙ sym (written_more m blocks c) in
    let before = e.spelled (omega (arith, fits)) in
    let whole : length (written_text m (blocks ++ c ∷ [])) ≤ most_bytes =
    let last = written_size m (blocks ++ c ∷ []) in
    let sum = sum_by-append (block_size m) blocks (c ∷ []) in
    let one = one_size m c in
    omega (arith, last, sum, one, fits) in
    record {
      blocks = blocks ++ c ∷ [];
      blocks_of = all;
      text = text;
      spelled = λ some. subst (Spells m (record { order = own_order m; blocks = blocks ++ c ∷ [] })) (sym text)
          (law (blocks ++ c ∷ []) (writable_of m 1 (header_size m) (fs ++ f ∷ []) (blocks ++ c ∷ []) all) (rising_of m 1 (header_size m) (fs ++ f ∷ []) (blocks ++ c ∷ []) all)
          (stands_more m 3 blocks c before.is_file.places refl) whole);
    }
