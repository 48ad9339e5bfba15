-- The reply to what is asked of strong fairness, for a model without faults, within a node limit.
use Rattle.std.specs.Prelude.{◌≡◌, ◌⊎◌, ℕ, List, [], ◌∷◌, ◌++◌, length, map, All, None, Some}
use Rattle.std.specs.Prelude.{codes, decimal}
use Rattle.std.specs.Global.{Vec}
use Rattle.std.specs.List.{AllZip}
use Rattle.bdd_nodes.specs.Table.{Has, IsGood}
use Rattle.bdd_nodes.specs.declared.refusal.Held.{Held}
use Rattle.bdd_nodes.specs.declared.triple.Triple.{Triple}
use Rattle.bit_encode.specs.Code.{state_bits}
use Rattle.kripke_model.specs.Path.{Lasso}
use Rattle.kripke_model.specs.System.{System}
use Rattle.path_laws.specs.StateSet.{StateSet}
use Rattle.proof_text.specs.Lines as lines
use Rattle.proof_text.specs.Lines.{Line, Words, counted, nodes_lines}
use Rattle.proof_text.specs.Meaning.{node_set}
use Rattle.proof_text.specs.Written.{own_order}
use Rattle.smv_texts.specs.Evidence.{IsMet}
use Rattle.smv_texts.specs.Replies.{Reply, text_of}
use Rattle.smv_texts.specs.Report.{lasso_lines}
use Rattle.smv_texts.specs.Texts.{line}
use Rattle.smv_texts.specs.declared.ending.Ending.TheVariants.{Clear, Failed, Undecided}
use Rattle.spec_leaves.specs.Named.{spec_leaf}
use Rattle.strong_fair.specs.Form.{Certificate, Row, map_certificate, sets_of}
use Rattle.strong_fair.specs.Shows.{IsCertificate}
use Rattle.strong_fair.specs.Strong.{HasStrongPath, IsStrongPath, Pair}
use Rattle.strong_fair.specs.declared.certificate.Reason.{Reason}
use Rattle.strong_fair.specs.declared.certificate.Reason.TheVariants.{Avoid, Dead}
use Rattle.strong_fair.specs.declared.certificate.Reason.TheVariants as reasons

-- ---- the lines of a certificate, whose sets are 0 (no state), 1 (every state) or numbers of nodes

-- constraints and pairs are counted from 1
abbrev pub reason_words : Reason → ℕ → List (List ℕ)
reason_words Dead set = codes "dead" ∷ decimal set ∷ []
reason_words (Avoid k) set = codes "avoid" ∷ decimal k ∷ decimal set ∷ []
reason_words (reasons.Pair i) set = codes "pair" ∷ decimal i ∷ decimal set ∷ []

abbrev pub row_line : Row ℕ → Line
row_line row = Words (reason_words row.reason row.set)

abbrev pub rows_lines : List (Row ℕ) → List Line
rows_lines rows = counted (codes "rows") (length rows) ∷ map row_line rows

abbrev pub certificate_lines : List Triple → Certificate ℕ → List Line
certificate_lines nodes c = nodes_lines nodes
    ++ (counted (codes "inside") c.inside ∷ rows_lines c.rows ++ Words (codes "end" ∷ []) ∷ [])

-- ---- the texts

abbrev pub yes_text : System → Lasso → List ℕ
yes_text m path = line (codes "strong yes") ++ lasso_lines m path

abbrev pub no_text : List Triple → Certificate ℕ → List ℕ
no_text nodes c = line (codes "strong no") ++ lines.text_of (certificate_lines nodes c)

abbrev pub unknown_line : (limit : ℕ) → List ℕ
unknown_line limit = line (codes "strong unknown: node limit " ++ decimal limit)

-- ---- what is told

-- the pairs of expressions that pairs of numbers of specifications name
abbrev pub ArePairs : System → List (ℕ × ℕ) → List Pair → Type 0
ArePairs m numbers pairs =
    AllZip (λ (n : ℕ × ℕ) (pair : Pair). (spec_leaf m n.0 ≡ Some pair.p)
    × (spec_leaf m n.1 ≡ Some pair.q)) numbers pairs

-- the certificate over the states in whose codes, in declared order, the walk down from a node ends
-- at 1
abbrev pub over_nodes : System → List Triple → Certificate ℕ → Certificate StateSet
over_nodes m nodes c = map_certificate (node_set m (own_order m) nodes) c

-- the certificate holds, over a good list of nodes that has its sets
pub record IsShownBy (m : System) (pairs : List Pair) (nodes : List Triple) (c : Certificate ℕ)
    : Type 0 where
  pub good : IsGood (state_bits m) nodes
  pub sets : All (Has nodes) (sets_of c)
  pub holds : IsCertificate m pairs (over_nodes m nodes c)

-- the path is a strong one for the pairs that the numbers name
pub record IsPathFor (m : System) (numbers : List (ℕ × ℕ)) (path : Lasso) : Type 0 where
  pub pairs : List Pair
  pub are : ArePairs m numbers pairs
  pub strong : IsStrongPath m pairs path

-- the certificate holds for the pairs that the numbers name, and there is no strong path
pub record IsNoneFor (m : System) (numbers : List (ℕ × ℕ)) (nodes : List Triple)
    (c : Certificate ℕ) : Type 0 where
  pub pairs : List Pair
  pub are : ArePairs m numbers pairs
  pub shown : IsShownBy m pairs nodes c
  pub none : HasStrongPath m pairs → ⊥

-- ---- the replies

-- a strong path is told
pub record TellsPath (m : System) (numbers : List (ℕ × ℕ)) (r : Reply) : Type 0 where
  pub path : Lasso
  pub is : IsPathFor m numbers path
  pub text : text_of r ≡ yes_text m path
  pub ends : r.ending ≡ Clear
  pub saves : r.saves ≡ None

-- a certificate is told that there is none
pub record TellsNone (m : System) (numbers : List (ℕ × ℕ)) (r : Reply) : Type 0 where
  pub nodes : List Triple
  pub certificate : Certificate ℕ
  pub is : IsNoneFor m numbers nodes certificate
  pub text : text_of r ≡ no_text nodes certificate
  pub ends : r.ending ≡ Failed
  pub saves : r.saves ≡ None

-- The limit was met: one full store is the evidence, and the limit is below what is enough.
pub record LeavesStrong (m : System) (limit : ℕ) (r : Reply) : Type 0 where
  pub held : Vec Held
  pub full : Held
  pub one : held.items ≡ full ∷ []
  pub of_limit : IsMet m limit full
  pub text : text_of r ≡ unknown_line limit
  pub ends : r.ending ≡ Undecided held
  pub saves : r.saves ≡ None

abbrev pub StrongReply : System → ℕ → List (ℕ × ℕ) → Reply → Type 0
StrongReply m limit numbers r =
    TellsPath m numbers r ⊎ (TellsNone m numbers r ⊎ LeavesStrong m limit r)
