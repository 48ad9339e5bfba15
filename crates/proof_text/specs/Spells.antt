-- Which bytes are a proof file of a model, and which file they are.
use Rattle.std.specs.Prelude.{◌≡◌, ◌≤◌, ◌<◌, ℕ, ◌+◌, List, [], ◌∷◌, ◌++◌, length, All, AllPairs, Contains, IsSomeAnd, Option, Some, None, flat_map}
use Rattle.bdd_nodes.specs.declared.triple.Triple.{Triple}
use Rattle.bdd_nodes.specs.Table.{Has, IsGood, IsGoodNode}
use Rattle.bit_encode.specs.Code.{IsOrder, state_bits}
use Rattle.kripke_model.specs.System.{System}
use Rattle.proof_form.specs.Form.{FairPart, FreePart, Rule, EX, AX, AR, EU, AU, ER, Proof, sets_of}
use Rattle.proof_form.specs.Shape.{IsInShape, spec_formula}
use Rattle.proof_text.specs.File.{Block, File}
use Rattle.proof_text.specs.Lines.{Line, Words, Node, block_lines, file_lines, text_of}

-- the greatest length of a proof file, and the greatest number in it
abbrev pub most_bytes : ℕ
most_bytes = 67108864

abbrev pub greatest_number : ℕ
greatest_number = 4294967295

-- ---- numbers

-- how long the lists of a proof are, as its lines say
abbrev pub fair_lengths : FairPart ℕ → List ℕ
fair_lengths p = flat_map (λ sets. length sets ∷ []) p.reach

abbrev pub rule_lengths : Rule ℕ → List ℕ
rule_lengths (EX set) = []
rule_lengths (AX set) = []
rule_lengths (AR set) = []
rule_lengths (EU sets) = length sets ∷ []
rule_lengths (AU layers) = length layers ∷ []
rule_lengths (ER fair untils) = fair_lengths fair ++ length untils ∷ []

abbrev pub free_lengths : Option (FreePart ℕ) → List ℕ
free_lengths None = []
free_lengths (Some part)
    = length part.nonfair
    ∷ fair_lengths part.fair ++ flat_map (λ e. rule_lengths e.entry.rule) part.entries

abbrev pub lengths_of : Proof ℕ → List ℕ
lengths_of p
    = free_lengths p.free
    ++ (length p.nonfair ∷ fair_lengths p.fair ++ flat_map (λ e. rule_lengths e.rule) p.entries)

abbrev pub triple_numbers : Triple → List ℕ
triple_numbers t = t.level ∷ t.low ∷ t.high ∷ []

-- the numbers that a block writes, beside those of nodes, constraints and specifications, of which a model has few
abbrev pub numbers_of : Block → List ℕ
numbers_of b
    = length b.nodes ∷ flat_map triple_numbers b.nodes ++ (lengths_of b.proof ++ sets_of b.proof)

-- ---- what can be written

-- a proof in shape of one of the model's specifications, whose sets are constants or nodes of the block
pub record IsBlock (m : System) (b : Block) : Type 0 where
  pub shape : IsSomeAnd (spec_formula m b.spec) (λ f. IsInShape m f b.proof)
  pub sets : All (Has b.nodes) (sets_of b.proof)
  pub small : All (λ n. n ≤ greatest_number) (numbers_of b)

-- the first block begins at line n
abbrev pub StandFrom : System → ℕ → List Block → Type 0
StandFrom m n [] = Unit {0}
StandFrom m n (b ∷ blocks) = (b.first ≡ n) × StandFrom m (n + length (block_lines m b)) blocks

-- A file of the model, but for the rules of nodes. Its blocks are of rising specifications, and begin behind the two lines of the header.
pub record IsFile (m : System) (file : File) : Type 0 where
  pub order : IsOrder (length m.vars) file.order
  pub blocks : All (IsBlock m) file.blocks
  pub rising : AllPairs (λ (a b : Block). a.spec < b.spec) file.blocks
  pub places : StandFrom m 3 file.blocks

-- a node that is written is a good one behind the earlier ones, and none of them; each other line is good
abbrev pub IsGoodLine : ℕ → Line → Type 0
IsGoodLine levels (Words words) = Unit {0}
IsGoodLine levels (Node earlier t)
    = IsGoodNode levels earlier (length earlier + 2) t × (Contains earlier t → ⊥)

-- The bytes are the lines of the file.
pub record Spells (m : System) (file : File) (bytes : List ℕ) : Type 0 where
  pub is_file : IsFile m file
  pub nodes : All (IsGoodLine (state_bits m)) (file_lines m file)
  pub text : bytes ≡ text_of (file_lines m file)
  pub short : length bytes ≤ most_bytes

-- the nodes of the block are a good table over the bits of a state
abbrev pub HasGoodNodes : System → Block → Type 0
HasGoodNodes m b = IsGood (state_bits m) b.nodes
