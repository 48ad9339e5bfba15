-- Blocks that are read from a proof file.
use Rattle.std.specs.Prelude.{◌≡◌, ℕ, List, Contains}
use Rattle.kripke_model.specs.System.{System}
use Rattle.proof_text.specs.File.{Block, File}
use Rattle.proof_text.specs.Spells.{Spells}

-- it is a block of a proof file of the model with this order
pub record IsRead (m : System) (order : List ℕ) (b : Block) : Type 0 where
  pub file : File
  pub bytes : List ℕ
  pub spelled : Spells m file bytes
  pub order_is : file.order ≡ order
  pub here : Contains file.blocks b
