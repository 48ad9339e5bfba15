-- The text of a proof's block.
use Rattle.std.specs.Prelude.{◌≡◌, ℕ, Bool, List, Option}
use Rattle.kripke_model.specs.System.{System, State}
use Rattle.proof_text.specs.File.{Block}
use Rattle.proof_text.specs.Lines.{block_lines, text_of}
use Rattle.proof_text.specs.Meaning.{IsProved}
use Rattle.proof_text.specs.Written.{IsWritable, own_order}

-- The text is that of a block, with the variables in declared order, that proves this claim of
-- specification j, counted from 1: false at the state, if there is one.
pub record IsBlockText (m : System) (j : ℕ) (claim : Bool) (at : Option State) (text : List ℕ)
    : Type 0 where
  pub block : Block
  pub spec_is : block.spec ≡ j
  pub claim_is : block.proof.claim ≡ claim
  pub at_is : block.proof.at ≡ at
  pub writable : IsWritable m block
  pub proved : IsProved m (own_order m) block
  pub text_is : text ≡ text_of (block_lines m block)
