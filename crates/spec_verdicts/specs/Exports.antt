-- The proof file of what is found.
use Rattle.std.specs.Prelude.{◌≡◌, ◌⊎◌, ◌≤◌, ◌<◌, ℕ, ◌+◌, true, false, List, [], ◌∷◌, ◌++◌, length, Some, None}
use Rattle.std.specs.List.{sum_by}
use Rattle.kripke_model.specs.System.{System}
use Rattle.proof_form.specs.Form.{Proof}
use Rattle.proof_text.specs.File.{Block}
use Rattle.proof_text.specs.Lines.{text_of, header_lines, block_lines}
use Rattle.proof_text.specs.Meaning.{IsProved}
use Rattle.proof_text.specs.Spells.{Spells, most_bytes}
use Rattle.proof_text.specs.Written.{IsWritable, own_order, written_text}
use Rattle.smv_texts.specs.Report.{Outcome, True, False, Unknown, Finding, is_unknown}

abbrev pub header_size : System → ℕ
header_size m = length (text_of (header_lines m (own_order m)))

abbrev pub block_size : System → Block → ℕ
block_size m b = length (text_of (block_lines m b))

-- ---- one finding

-- the proof claims the outcome: true, or false at the state that is shown
abbrev pub ClaimsOutcome : {A : Type 0} → Outcome → Proof A → Type 0
ClaimsOutcome True p = p.claim ≡ true
ClaimsOutcome (False s path) p = (p.claim ≡ false) × (p.at ≡ Some s)
ClaimsOutcome (Unknown limit) p = ⊥

-- the block is a proof of the outcome of specification j, counted from 1, with the variables in
-- declared order
pub record ProvesOutcome (m : System) (j : ℕ) (outcome : Outcome) (b : Block) : Type 0 where
  pub spec : b.spec ≡ j
  pub claim : ClaimsOutcome outcome b.proof
  pub writable : IsWritable m b
  pub proved : IsProved m (own_order m) b

-- it is unknown, and there is no proof of it
pub record IsUnproved (f : Finding) : Type 0 where
  pub unknown : is_unknown f ≡ true
  pub told : f.left_out ≡ None

-- Behind so many bytes its proof is left out: the file would be too long with it. The length that is
-- told is the one that it would have.
pub record IsLeftOut (m : System) (j size : ℕ) (f : Finding) : Type 0 where
  pub block : Block
  pub proves : ProvesOutcome m j f.outcome block
  pub long : most_bytes < size + block_size m block
  pub told : f.left_out ≡ Some (size + block_size m block)

-- its proof is added behind so many bytes
pub record IsAdded (m : System) (j size : ℕ) (f : Finding) (b : Block) : Type 0 where
  pub proves : ProvesOutcome m j f.outcome b
  pub short : size + block_size m b ≤ most_bytes
  pub told : f.left_out ≡ None

-- what the finding of specification j adds behind so many bytes
abbrev pub Adds : System → ℕ → ℕ → Finding → List Block → Type 0
Adds m j size f [] = IsUnproved f ⊎ IsLeftOut m j size f
Adds m j size f (b ∷ []) = IsAdded m j size f b
Adds m j size f (b ∷ c ∷ blocks) = ⊥

-- ---- all findings

-- the blocks of the findings, of which the first is that of specification j, behind so many bytes
abbrev pub AreBlocksOf : System → ℕ → ℕ → List Finding → List Block → Type 0
AreBlocksOf m j size [] blocks = blocks ≡ []
AreBlocksOf m j size (f ∷ fs) blocks = (added rest : List Block) × (blocks ≡ added ++ rest)
    × Adds m j size f added × AreBlocksOf m (j + 1) (size + sum_by (block_size m) added) fs rest

-- The bytes are the lines of a file of the findings' blocks, in declared order, and are spelled by it
-- unless the header alone is too long.
pub record Exports (m : System) (fs : List Finding) (bytes : List ℕ) : Type 0 where
  pub blocks : List Block
  pub blocks_of : AreBlocksOf m 1 (header_size m) fs blocks
  pub text : bytes ≡ written_text m blocks
  pub spelled : header_size m ≤ most_bytes
      → Spells m (record { order = own_order m; blocks = blocks }) bytes
