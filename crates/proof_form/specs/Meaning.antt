-- What a proof over sets of states has to show, line by line, and what it claims.
use Rattle.std.specs.Prelude.{ℕ, ◌+◌, ◌-◌, ◌==◌, if◌then◌else◌, Bool, true, false, List, [], ◌∷◌, ◌++◌, map, Option, Some, None, IsSomeAnd}
use Rattle.std.specs.Option.{option_and_then}
use Rattle.kripke_model.specs.Ctl.{Ctl}
use Rattle.kripke_model.specs.System.{System}
use Rattle.kripke_model.specs.Truth.{Initials}
use Rattle.path_laws.specs.StateSet.{StateSet}
use Rattle.fair_rules.specs.Rules as rules
use Rattle.fair_rules.specs.Claims as claims
use Rattle.fair_rules.specs.SetLists.{everything, nothing}
use Rattle.fair_rules.specs.Checks.{Check, AllHold, IsFirstBad, layer_lines, reach_lines}
use Rattle.fair_rules.specs.Block as blocks
use Rattle.fair_rules.specs.Block.{Block, Demand, Listed, asked_lines, block_lines, demand_at}
use Rattle.fair_rules.specs.FreePart.{claimed_visited, claimed_avoided}
use Rattle.proof_form.specs.Form.{Layer, Rule, EX, AX, AR, EU, AU, ER, Entry, FreeEntry, FreePart, Proof}
use Rattle.proof_form.specs.Shape.{IsInShape, spec_formula, constraint_formula}

-- ---- the proof as the rules have it, where constraints are counted from 0

abbrev pub layer_of : Layer StateSet → rules.Layer
layer_of l = record { avoided = l.avoid - 1; states = l.set }

abbrev pub entry_of : Rule StateSet → claims.Entry
entry_of (EX set) = claims.Entry.EX set
entry_of (AX set) = claims.Entry.AX set
entry_of (AR set) = claims.Entry.AR set
entry_of (EU sets) = claims.Entry.EU sets
entry_of (AU layers) = claims.Entry.AU (map layer_of layers)
entry_of (ER fair untils) = claims.Entry.ER fair.inside fair.reach untils

abbrev pub listed_of : Entry StateSet → Listed
listed_of e = record { node = e.node; plus = e.plus; entry = entry_of e.rule }

abbrev pub block_of : Proof StateSet → Block
block_of p = record {
  nonfair = map layer_of p.nonfair;
  fair = p.fair.inside;
  reaches = p.fair.reach;
  entries = map listed_of p.entries;
  at = p.at;
}

-- ---- the proofs of the constraints' formulas, over all paths

-- what the free part has for constraint k, counted from 1
abbrev pub entries_for : ℕ → List (FreeEntry StateSet) → List Listed
entries_for k [] = []
entries_for k (e ∷ es)
    = if e.constraint == k then listed_of e.entry ∷ entries_for k es else entries_for k es

-- constraints are counted from 0 here; a constraint that is a leaf needs nothing
abbrev pub free_proof : Option (FreePart StateSet) → ℕ → claims.Proof
free_proof None k
    = record { nonfair = []; fair = nothing; reaches = []; entries = blocks.entry_of [] }
free_proof (Some part) k = record {
  nonfair = map layer_of part.nonfair;
  fair = part.fair.inside;
  reaches = part.fair.reach;
  entries = blocks.entry_of (entries_for (k + 1) part.entries);
}

-- for each constraint the states where it is claimed true, and those where it is claimed false
abbrev pub visited : System → Proof StateSet → List StateSet
visited m p = claimed_visited m (free_proof p.free)

abbrev pub avoided : System → Proof StateSet → List StateSet
avoided m p = claimed_avoided m (free_proof p.free)

-- ---- its obligations

-- over all paths there is one set to visit, which has every state, and one to avoid, which has none
abbrev pub free_visited : List StateSet
free_visited = everything ∷ []

abbrev pub free_avoided : List StateSet
free_avoided = nothing ∷ []

-- what is asked of an entry for a constraint
abbrev pub free_demand : System → FreePart StateSet → FreeEntry StateSet → Option Demand
free_demand m part e = option_and_then
    (λ f. demand_at m (free_proof (Some part) (e.constraint - 1)) f 1 e.entry.node e.entry.plus)
    (constraint_formula m e.constraint)

abbrev pub free_entry_lines : System → FreePart StateSet → List (FreeEntry StateSet)
    → List (List Check)
free_entry_lines m part [] = []
free_entry_lines m part (e ∷ es) =
    asked_lines free_visited free_avoided (free_proof (Some part) (e.constraint - 1))
    (free_demand m part e) (entry_of e.entry.rule)
    ++ free_entry_lines m part es

-- the line `free` has nothing to show
abbrev pub free_lines : System → Option (FreePart StateSet) → List (List Check)
free_lines m None = []
free_lines m (Some part) =
    [] ∷ ([] ∷ layer_lines free_avoided everything nothing nothing (map layer_of part.nonfair))
    ++ (([] ∷ reach_lines part.fair.inside free_visited part.fair.reach)
    ++ free_entry_lines m part part.entries)

-- what each line has to show, from `free` or `nonfair` to `end`
abbrev pub obligations : System → Ctl → Proof StateSet → List (List Check)
obligations m f p
    = free_lines m p.free ++ block_lines m (visited m p) (avoided m p) (block_of p) f 1

-- a proof in shape, each line of which shows what it has to
pub record IsProofOf (m : System) (f : Ctl) (p : Proof StateSet) : Type 0 where
  pub shape : IsInShape m f p
  pub lines : AllHold m (obligations m f p)

-- it is one of specification j, counted from 1
abbrev pub ProvesSpec : System → ℕ → Proof StateSet → Type 0
ProvesSpec m j p = IsSomeAnd (spec_formula m j) (λ f. IsProofOf m f p)

-- a proof in shape of specification j, and line n, counted from 0 at `free` or `nonfair`, is the first that fails
abbrev pub FailsFirstAt : System → ℕ → Proof StateSet → ℕ → Type 0
FailsFirstAt m j p n
    = IsSomeAnd (spec_formula m j) (λ f. IsInShape m f p × IsFirstBad m (obligations m f p) n)

-- ---- its claim

abbrev pub Claims : System → Ctl → Bool → Type 0
Claims m f true = Initials m f
Claims m f false = Initials m f → ⊥

-- what a proof of specification j claims is so
abbrev pub ClaimHolds : System → ℕ → Bool → Type 0
ClaimHolds m j claim = IsSomeAnd (spec_formula m j) (λ f. Claims m f claim)

-- proofs have true claims
abbrev pub ProofsSound : System → Type 0
ProofsSound m = (j : ℕ) (p : Proof StateSet) → ProvesSpec m j p → ClaimHolds m j p.claim
