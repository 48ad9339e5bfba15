-- Parts of a proof's shape, as they are tested.
use Rattle.std.specs.Prelude.{◌≡◌, ℕ, List, length, map, All, AllPairs, IfSome, is_none}
use Rattle.std.specs.Global.{Vec}
use Rattle.kripke_model.specs.declared.expressions.Formula.{Formula}
use Rattle.kripke_model.specs.Step.{IsState}
use Rattle.kripke_model.specs.System.{System}
use Rattle.kripke_model.specs.WellFormed.{ctl_of}
use Rattle.proof_form.specs.declared.preorder.Node.{Node}
use Rattle.proof_form.specs.Form.{Proof, FreePart}
use Rattle.proof_form.specs.Preorder.{node_views, nodes_from}
use Rattle.proof_form.specs.Shape.{Avoids, ComesBefore, FitsConstraints, StandsBefore}

-- entries rise, and layers, reach sets and rules fit so many constraints
pub record IsLaidOut {A : Type 0} (count : ℕ) (p : Proof A) : Type 0 where
  pub rising : AllPairs ComesBefore p.entries
  pub avoided : All (Avoids count) p.nonfair
  pub reach : length p.fair.reach ≡ count
  pub fits : All (λ e. FitsConstraints count e.rule) p.entries

pub record IsFreelyLaidOut {A : Type 0} (p : FreePart A) : Type 0 where
  pub rising : AllPairs StandsBefore p.entries
  pub avoided : All (Avoids 1) p.nonfair
  pub reach : length p.fair.reach ≡ 1
  pub fits : All (λ e. FitsConstraints 1 e.entry.rule) p.entries

-- a state stands there exactly where the claim is that the formula is false
pub record ClaimFits {A : Type 0} (m : System) (p : Proof A) : Type 0 where
  pub claim : p.claim ≡ is_none p.at
  pub at_state : IfSome p.at (IsState m)

-- for each formula the list of its nodes
abbrev pub AreTables : List Formula → List (Vec Node) → Type 0
AreTables formulas tables
    = map (λ table. node_views table.items) tables ≡ map (λ f. nodes_from (ctl_of f) 0) formulas
