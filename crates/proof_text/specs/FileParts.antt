-- Which headers, nodes, ends and blocks can stand in a file.
use Rattle.std.specs.Prelude.{◌≡◌, ℕ, ◌+◌, ◌<◌, ◌≤◌, Bool, List, [], ◌∷◌, length, map, All, Option, Some, None, IsSome, IsSomeAnd, IfSome, is_none, codes, decimal, flat_map}
use Rattle.bdd_nodes.specs.declared.triple.Triple.{Triple}
use Rattle.bit_encode.specs.Code.{IsOrder}
use Rattle.kripke_model.specs.Ctl.{Ctl}
use Rattle.kripke_model.specs.Leaves.{HasLeafConstraints}
use Rattle.kripke_model.specs.Step.{IsState}
use Rattle.kripke_model.specs.System.{System, State, constraint_count, variable_name}
use Rattle.proof_form.specs.Form.{FreePart, Proof}
use Rattle.proof_form.specs.Shape.{spec_formula}
use Rattle.proof_text.specs.File.{Block}
use Rattle.proof_text.specs.Lines.{Line, Words, Node, version_word, claim_word, block_lines}
use Rattle.proof_text.specs.SetParts.{FitsLayers, FitsFair, FitsEntry, FitsFreeEntry}
use Rattle.proof_text.specs.Spells.{IsBlock, greatest_number, triple_numbers}
use Rattle.proof_text.specs.declared.heads.Head.{Head}
use Rattle.text_lines.specs.Formats.{FitEach, FitMany}

-- ---- the header

abbrev pub version_line : System → Line
version_line m = Words (codes "smvproof" ∷ version_word m ∷ [])

abbrev pub order_line : System → List ℕ → Line
order_line m order = Words (codes "order" ∷ map (variable_name m) order)

abbrev pub FitsOrder : System → List ℕ → Type 0
FitsOrder m order = IsOrder (length m.vars) order

-- ---- a block's first lines

-- behind a block of the specification `last`, or the number 0 where there is none
abbrev pub FitsHead : System → ℕ → Head → Type 0
FitsHead m last h = IsSome (spec_formula m h.spec) × (last < h.spec)

abbrev pub head_line : Head → Line
head_line h = Words (codes "spec" ∷ decimal h.spec ∷ claim_word h.claim ∷ [])

-- ---- nodes

-- the rules of nodes are asked of the lines
abbrev pub FitsNode : List Triple → Triple → Type 0
FitsNode earlier t = All (λ n. n ≤ greatest_number) (triple_numbers t)

abbrev pub one_node : List Triple → Triple → List Line
one_node earlier t = Node earlier t ∷ []

-- ---- the end of a block

abbrev pub FitsEnd : System → Bool → Option State → Type 0
FitsEnd m claim at = (claim ≡ is_none at) × IfSome at (IsState m)

-- ---- blocks behind earlier ones

abbrev pub FitsNextBlock : System → List Block → Block → Type 0
FitsNextBlock m earlier b
    = IsBlock m b × All (λ a. a.spec < b.spec) earlier
    × (b.first ≡ 3 + length (flat_map (block_lines m) earlier))

-- ---- the proof of a formula, where the sets of its block are the numbers below `most`

abbrev pub FitsFree : System → ℕ → Option (FreePart ℕ) → Type 0
FitsFree m most None = HasLeafConstraints m
FitsFree m most (Some part)
    = ¬ HasLeafConstraints m × FitsLayers 1 most part.nonfair × FitsFair 1 most part.fair
    × FitEach (FitsFreeEntry m most) [] part.entries

pub record FitsProof (m : System) (f : Ctl) (claim : Bool) (most : ℕ) (p : Proof ℕ) : Type 0 where
  pub claims : p.claim ≡ claim
  pub free : FitsFree m most p.free
  pub nonfair : FitsLayers (constraint_count m) most p.nonfair
  pub fair : FitsFair (constraint_count m) most p.fair
  pub entries : FitEach (FitsEntry f (constraint_count m) most) [] p.entries
  pub end : FitsEnd m claim p.at

-- the number of nodes, and these
abbrev pub FitsNodes : List Triple → Type 0
FitsNodes nodes = (length nodes ≤ greatest_number) × FitMany FitsNode (length nodes) [] nodes

-- a block is one by its parts
abbrev pub FitsBlock : System → Block → Type 0
FitsBlock m b
    = FitsNodes b.nodes
    × IsSomeAnd (spec_formula m b.spec)
    (λ f. FitsProof m f b.proof.claim (length b.nodes + 2) b.proof)
