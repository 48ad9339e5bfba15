-- Why bytes are no proof file: at which line they cease to be the beginning of one.
use Rattle.std.specs.Prelude.{◌≡◌, ◌<◌, ℕ, ◌+◌, ◌==◌, List, ◌++◌, length, map, take, All, IsSomeAnd, codes, slice_get}
use Rattle.std.specs.List.{before_first}
use Rattle.kripke_model.specs.System.{System}
use Rattle.proof_text.specs.File.{File}
use Rattle.text_lines.specs.Ceasing.{HasLines, CeasesAt, IsCutOff, AreRefusedOnce, AreReadOnce}
use Rattle.proof_text.specs.Lines.{Line, line_text, file_lines}
use Rattle.proof_text.specs.Spells.{IsFile, IsGoodLine, Spells, most_bytes}
use Rattle.bit_encode.specs.Code.{state_bits}
use Rattle.proof_text.specs.declared.refusals.TextRefusal.{TextRefusal}
use Rattle.proof_text.specs.declared.refusals.TextRefusal.TheVariants.{BadLine, Truncated, BadOrder, BadNode, TooLong, Memory}

-- ---- beginnings of files

-- some file begins with the lines, where the rules of nodes are not asked about
pub record MayBegin (m : System) (texts : List (List ℕ)) : Type 0 where
  pub file : File
  pub is_file : IsFile m file
  pub front : List Line
  pub rest : List Line
  pub lines : file_lines m file ≡ front ++ rest
  pub texts_are : map line_text front ≡ texts

-- some file begins with them, whose nodes keep the rules as far as they stand in these lines
abbrev pub Begins : System → List (List ℕ) → Type 0
Begins m texts = (b : MayBegin m texts) × All (IsGoodLine (state_bits m)) b.front

-- the text has lines that cease to begin a file at line l, counted from 1, and P says why
abbrev pub CeasesBy : System → List ℕ → ℕ → (List (List ℕ) → ℕ → Type 0) → Type 0
CeasesBy m bytes l P
    = (texts : List (List ℕ)) × (rest : List ℕ) × (k : ℕ) × HasLines most_bytes bytes texts rest
    × CeasesAt (Begins m) texts k × (l ≡ k + 1) × P texts k

-- line k is one of a node, but breaks the rules of nodes
abbrev pub IsNodeLine : System → List (List ℕ) → ℕ → Type 0
IsNodeLine m texts k = MayBegin m (take (k + 1) texts)

-- line k is the second one, and its first word is `order`
abbrev pub IsOrderLine : List (List ℕ) → ℕ → Type 0
IsOrderLine texts k
    = (k ≡ 1) × IsSomeAnd (slice_get texts k)
    (λ text. before_first (λ b. b == 32) text ≡ codes "order")

-- The refusal applies to the bytes. Lines are counted from 1.
abbrev pub Refuses : System → List ℕ → TextRefusal → Type 0
Refuses m bytes TooLong = most_bytes < length bytes
Refuses m bytes (Truncated l) = IsCutOff (Begins m) (λ f. Spells m f bytes) most_bytes bytes l
Refuses m bytes BadOrder = (l : ℕ) × CeasesBy m bytes l IsOrderLine
Refuses m bytes (BadNode l) = CeasesBy m bytes l (IsNodeLine m)
Refuses m bytes (BadLine l)
    = CeasesBy m bytes l (λ texts k. (IsNodeLine m texts k → ⊥) × (IsOrderLine texts k → ⊥))
Refuses m bytes Memory = ⊥

-- ---- the laws

-- they are read in one way
abbrev pub HaveOneReading : System → List ℕ → Type 0
HaveOneReading m bytes
    = AreRefusedOnce (λ f. Spells m f bytes) (Refuses m bytes)
    × AreReadOnce (λ f. Spells m f bytes) (Refuses m bytes)
