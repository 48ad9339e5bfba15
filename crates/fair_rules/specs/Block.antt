-- A proof as it is written: its lines in order, what each has to show, and its claim.
use Rattle.std.specs.Prelude.{◌≡◌, ℕ, ◌+◌, ◌&&◌, ◌==◌, Bool, true, false, not, List, [], ◌∷◌, ◌++◌, All, Option, Some, None, if◌then◌else◌}
use Rattle.std.specs.Option.{option_and_then}
use Rattle.kripke_model.specs.Ctl.{Ctl}
use Rattle.kripke_model.specs.System.{System, State}
use Rattle.kripke_model.specs.Truth.{Initials}
use Rattle.kripke_model.specs.Signs.{ProofRule, rule_of, until_rule, node_count}
use Rattle.path_laws.specs.StateSet.{StateSet}
use Rattle.fair_rules.specs.SetLists.{everything, nothing}
use Rattle.fair_rules.specs.Rules.{Layer}
use Rattle.fair_rules.specs.Claims.{Entry, Proof, either, both, join_layers, claimed, absent_argument}
use Rattle.fair_rules.specs.Fixpoints.{without}
use Rattle.fair_rules.specs.Nodes.{node_at}
use Rattle.fair_rules.specs.Checks.{Check, AllHold, layer_lines, until_lines, reach_lines}

pub record Listed : Type 0 where
  pub node : ℕ
  pub plus : Bool
  pub entry : Entry

-- without a state the claim is that the formula is true; with one, that it fails there
pub record Block : Type 0 where
  pub nonfair : List Layer
  pub fair : StateSet
  pub reaches : List (List StateSet)
  pub entries : List Listed
  pub at : Option State

abbrev pub same_sign : Bool → Bool → Bool
same_sign a b = if a then b else not b

-- the entry of a node and sign
abbrev pub entry_of : List Listed → ℕ → Bool → Entry
entry_of [] i sign = Entry.Absent
entry_of (e ∷ entries) i sign
    = if (e.node == i) && same_sign e.plus sign then e.entry else entry_of entries i sign

abbrev pub proof_of : Block → Proof
proof_of b = record {
  nonfair = b.nonfair;
  fair = b.fair;
  reaches = b.reaches;
  entries = entry_of b.entries;
}

-- ---- the rule of a node's sign, with the sets of its arguments

pub record Demand : Type 0 where
  pub rule : ProofRule
  pub first : StateSet
  pub last : StateSet

-- what is asked of a formula whose first node has number n; only temporal nodes are asked
abbrev pub demand : System → Proof → Ctl → ℕ → Bool → Option Demand
demand m p (Ctl.Quant op f) n sign
    = Some (record {
      rule = rule_of op sign;
      first = absent_argument (rule_of op sign);
      last = claimed m p f (n + 1) sign;
    })
demand m p (Ctl.Until all f g) n sign =
    Some (record {
      rule = until_rule all sign;
      first = claimed m p f (n + 1) sign;
      last = claimed m p g (n + 1 + node_count f) sign;
    })
demand m p f n sign = None

-- and of its node i
abbrev pub demand_at : System → Proof → Ctl → ℕ → ℕ → Bool → Option Demand
demand_at m p f n i sign = option_and_then (λ g. demand m p g i sign) (node_at f n i)

-- the entry is one of the rule
abbrev pub HasRule : ProofRule → Entry → Type 0
HasRule ProofRule.EX (Entry.EX set) = Unit {0}
HasRule ProofRule.AX (Entry.AX set) = Unit {0}
HasRule ProofRule.EU (Entry.EU sets) = Unit {0}
HasRule ProofRule.AU (Entry.AU layers) = Unit {0}
HasRule ProofRule.AR (Entry.AR set) = Unit {0}
HasRule ProofRule.ER (Entry.ER set reaches untils) = Unit {0}
HasRule rule entry = ⊥

-- an entry names a temporal node and has the rule of its sign
abbrev pub IsAsked : System → Proof → Ctl → ℕ → Listed → Type 0
IsAsked m p f n e
    = (d : Demand) × (demand_at m p f n e.node e.plus ≡ Some d) × HasRule d.rule e.entry

-- ---- the lines

-- an entry's first line has nothing to show
abbrev pub entry_lines : List StateSet → List StateSet → Proof → Demand → Entry → List (List Check)
entry_lines visited avoided p d Entry.Absent = []
entry_lines visited avoided p d (Entry.EX set)
    = [] ∷ (Check.Leads set (both d.last p.fair) ∷ []) ∷ []
entry_lines visited avoided p d (Entry.AX set)
    = [] ∷ (Check.Keeps set (either d.last (join_layers p.nonfair)) ∷ []) ∷ []
entry_lines visited avoided p d (Entry.AR set) =
    [] ∷ (Check.Inside set d.last
    ∷ Check.Keeps (without set d.first) (either set (join_layers p.nonfair)) ∷ []) ∷ []
entry_lines visited avoided p d (Entry.EU sets) = [] ∷ until_lines d.first (both d.last p.fair) sets
entry_lines visited avoided p d (Entry.AU layers)
    = [] ∷ layer_lines avoided d.first (either d.last (join_layers p.nonfair)) nothing layers
entry_lines visited avoided p d (Entry.ER set reaches untils) =
    [] ∷ (Check.Inside set d.last ∷ [])
    ∷ reach_lines set visited reaches
    ++ ([] ∷ until_lines d.last (both d.first (both d.last p.fair)) untils)

-- an entry of no temporal node has no lines
abbrev pub asked_lines : List StateSet → List StateSet → Proof → Option Demand → Entry
    → List (List Check)
asked_lines visited avoided p None entry = []
asked_lines visited avoided p (Some d) entry = entry_lines visited avoided p d entry

abbrev pub listed_lines : System → List StateSet → List StateSet → Proof → Ctl → ℕ → List Listed
    → List (List Check)
listed_lines m visited avoided p f n [] = []
listed_lines m visited avoided p f n (e ∷ entries) =
    asked_lines visited avoided p (demand_at m p f n e.node e.plus) e.entry
    ++ listed_lines m visited avoided p f n entries

-- the lines of the claim, which end the block
abbrev pub claim_lines : System → Proof → Ctl → ℕ → Option State → List (List Check)
claim_lines m p f n None = (Check.Starts (claimed m p f n true) ∷ []) ∷ []
claim_lines m p f n (Some s) = (Check.Begins s (claimed m p f n false) ∷ []) ∷ [] ∷ []

-- all lines from `nonfair` up to the block's end
abbrev pub block_lines : System → List StateSet → List StateSet → Block → Ctl → ℕ
    → List (List Check)
block_lines m visited avoided b f n =
    ([] ∷ layer_lines avoided everything nothing nothing b.nonfair)
    ++ (([] ∷ reach_lines b.fair visited b.reaches)
    ++ (listed_lines m visited avoided (proof_of b) f n b.entries ++ claim_lines m
    (proof_of b) f n b.at))

-- the block is a proof of its claim
pub record IsProofBlock (m : System) (visited avoided : List StateSet) (b : Block) (f : Ctl)
    (n : ℕ) : Type 0 where
  pub asked : All (IsAsked m (proof_of b) f n) b.entries
  pub lines : AllHold m (block_lines m visited avoided b f n)

-- what the claim means: the formula is true, or it is not
abbrev pub ClaimHolds : System → Ctl → Option State → Type 0
ClaimHolds m f None = Initials m f
ClaimHolds m f (Some s) = Initials m f → ⊥
