-- Blocks that are written, one behind the other, and what their text is.
use Rattle.std.specs.Prelude.{ℕ, ◌≤◌, ◌<◌, List, ◌++◌, length, flat_map, All, AllPairs, IsSomeAnd}
use Rattle.std.specs.List.{range_with_len}
use Rattle.bdd_nodes.specs.Table.{Has}
use Rattle.kripke_model.specs.System.{System}
use Rattle.proof_form.specs.Form.{sets_of}
use Rattle.proof_form.specs.Shape.{IsInShape, spec_formula}
use Rattle.proof_text.specs.File.{Block}
use Rattle.proof_text.specs.Lines.{text_of, header_lines, block_lines}
use Rattle.proof_text.specs.Spells.{HasGoodNodes, StandFrom, Spells, most_bytes}

-- a proof in shape of one of the model's specifications, over a good table that has its sets
pub record IsWritable (m : System) (b : Block) : Type 0 where
  pub shape : IsSomeAnd (spec_formula m b.spec) (λ f. IsInShape m f b.proof)
  pub sets : All (Has b.nodes) (sets_of b.proof)
  pub nodes : HasGoodNodes m b

-- the variables in declared order
abbrev pub own_order : System → List ℕ
own_order m = range_with_len 0 (length m.vars)

-- the text of the header in declared order, and of each block
abbrev pub written_text : System → List Block → List ℕ
written_text m blocks
    = text_of (header_lines m (own_order m)) ++ flat_map (λ b. text_of (block_lines m b)) blocks

-- blocks of rising specifications that are written so are what the text spells, if it isn't too long
abbrev pub AreSpelled : System → Type 0
AreSpelled m
    = (blocks : List Block) → All (IsWritable m) blocks
    → AllPairs (λ (a b : Block). a.spec < b.spec) blocks → StandFrom m 3 blocks
    → length (written_text m blocks) ≤ most_bytes
    → Spells m (record { order = own_order m; blocks = blocks }) (written_text m blocks)
