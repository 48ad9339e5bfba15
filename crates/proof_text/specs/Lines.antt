-- The lines of a proof file.
use Rattle.std.specs.Prelude.{ℕ, ◌+◌, Bool, true, false, if◌then◌else◌, List, [], ◌∷◌, ◌++◌, length, map, Option, Some, None, codes, decimal, flat_map}
use Rattle.std.specs.List.{join_with_byte, list_any}
use Rattle.bdd_nodes.specs.declared.triple.Triple.{Triple}
use Rattle.kripke_model.specs.Shown.{value_text}
use Rattle.kripke_model.specs.System.{System, State, variable_name}
use Rattle.kripke_model.specs.Term.{has_path_operator}
use Rattle.proof_form.specs.Form.{Layer, FairPart, Rule, EX, AX, AR, EU, AU, ER, Entry, FreeEntry, FreePart, Proof}
use Rattle.proof_text.specs.File.{Block, File}
use Rattle.text_lines.specs.WholeLines.{join_lines}

-- a line of words, or one that writes a node behind the earlier nodes of its block
pub data Line : Type 0 where
  Words : (words : List (List ℕ)) → Line
  Node : (earlier : List Triple) (node : Triple) → Line

abbrev pub words_of : Line → List (List ℕ)
words_of (Words words) = words
words_of (Node earlier t) = codes "n" ∷ decimal t.level ∷ decimal t.low ∷ decimal t.high ∷ []

-- its words with one space between, and no line feed
abbrev pub line_text : Line → List ℕ
line_text line = join_with_byte 32 (words_of line)

abbrev pub text_of : List Line → List ℕ
text_of lines = join_lines (map line_text lines)

-- ---- the header

-- the second version of the text is for models some constraint of which holds a path operator
abbrev pub version_word : System → List ℕ
version_word m
    = if list_any (λ c. has_path_operator c.expr) m.constraints then codes "2" else codes "1"

abbrev pub header_lines : System → List ℕ → List Line
header_lines m order
    = Words (codes "smvproof" ∷ version_word m ∷ [])
    ∷ Words (codes "order" ∷ map (variable_name m) order) ∷ []

-- ---- sets, layers, fair parts

abbrev pub counted : List ℕ → ℕ → Line
counted word n = Words (word ∷ decimal n ∷ [])

abbrev pub set_line : ℕ → Line
set_line set = Words (codes "set" ∷ decimal set ∷ [])

abbrev pub layer_line : Layer ℕ → Line
layer_line l = Words (codes "layer" ∷ decimal l.avoid ∷ decimal l.set ∷ [])

-- the sets that lead to each constraint, from number k on
abbrev pub reach_lines : ℕ → List (List ℕ) → List Line
reach_lines k [] = []
reach_lines k (sets ∷ lists)
    = Words (codes "reach" ∷ decimal k ∷ decimal (length sets) ∷ [])
    ∷ map set_line sets ++ reach_lines (k + 1) lists

abbrev pub fair_lines : FairPart ℕ → List Line
fair_lines p = Words (codes "fair" ∷ decimal p.inside ∷ []) ∷ reach_lines 1 p.reach

-- ---- entries

abbrev pub sign_word : Bool → List ℕ
sign_word true = codes "+"
sign_word false = codes "-"

-- the words before the rule
abbrev pub rule_lines : List (List ℕ) → Rule ℕ → List Line
rule_lines front (EX set) = Words (front ++ codes "EX" ∷ []) ∷ set_line set ∷ []
rule_lines front (AX set) = Words (front ++ codes "AX" ∷ []) ∷ set_line set ∷ []
rule_lines front (AR set) = Words (front ++ codes "AR" ∷ []) ∷ set_line set ∷ []
rule_lines front (EU sets)
    = Words (front ++ codes "EU" ∷ decimal (length sets) ∷ []) ∷ map set_line sets
rule_lines front (AU layers)
    = Words (front ++ codes "AU" ∷ decimal (length layers) ∷ []) ∷ map layer_line layers
rule_lines front (ER fair untils)
    = Words (front ++ codes "ER" ∷ [])
    ∷ fair_lines fair ++ (counted (codes "until") (length untils) ∷ map set_line untils)

abbrev pub entry_lines : Entry ℕ → List Line
entry_lines e = rule_lines (codes "entry" ∷ decimal e.node ∷ sign_word e.plus ∷ []) e.rule

-- ---- the free part

abbrev pub free_entry_lines : FreeEntry ℕ → List Line
free_entry_lines e
    = rule_lines
    (codes "centry" ∷ decimal e.constraint ∷ decimal e.entry.node ∷ sign_word e.entry.plus
    ∷ []) e.entry.rule

abbrev pub nonfair_lines : List (Layer ℕ) → List Line
nonfair_lines layers = counted (codes "nonfair") (length layers) ∷ map layer_line layers

abbrev pub free_lines : Option (FreePart ℕ) → List Line
free_lines None = []
free_lines (Some part)
    = Words (codes "free" ∷ [])
    ∷ nonfair_lines part.nonfair ++ (fair_lines part.fair ++ flat_map free_entry_lines part.entries)

-- ---- blocks

abbrev pub claim_word : Bool → List ℕ
claim_word true = codes "true"
claim_word false = codes "false"

-- the values of a state, from variable x on
abbrev pub value_words : System → ℕ → State → List (List ℕ)
value_words m x [] = []
value_words m x (v ∷ s) = value_text m x v ∷ value_words m (x + 1) s

abbrev pub end_lines : System → Option State → List Line
end_lines m None = Words (codes "end" ∷ []) ∷ []
end_lines m (Some s) = Words (codes "at" ∷ value_words m 0 s) ∷ Words (codes "end" ∷ []) ∷ []

abbrev pub node_lines : List Triple → List Triple → List Line
node_lines earlier [] = []
node_lines earlier (t ∷ nodes) = Node earlier t ∷ node_lines (earlier ++ t ∷ []) nodes

-- nodes behind their number
abbrev pub nodes_lines : List Triple → List Line
nodes_lines nodes = counted (codes "nodes") (length nodes) ∷ node_lines [] nodes

-- the lines of a proof, each of which has something to show
abbrev pub proof_lines : System → Proof ℕ → List Line
proof_lines m p
    = free_lines p.free
    ++ (nonfair_lines p.nonfair
    ++ (fair_lines p.fair ++ (flat_map entry_lines p.entries ++ end_lines m p.at)))

abbrev pub block_lines : System → Block → List Line
block_lines m b
    = Words (codes "spec" ∷ decimal b.spec ∷ claim_word b.proof.claim ∷ [])
    ∷ counted (codes "nodes") (length b.nodes)
    ∷ node_lines [] b.nodes ++ proof_lines m b.proof

abbrev pub file_lines : System → File → List Line
file_lines m file = header_lines m file.order ++ flat_map (block_lines m) file.blocks
