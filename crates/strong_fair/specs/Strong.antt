-- Paths and infinite sequences that are strongly fair to pairs of conditions: where p holds again and again, so does q.
use Rattle.std.specs.Prelude.{ℕ, ◌≤◌, List, All, Any}
use Rattle.kripke_model.specs.Term.{Term}
use Rattle.kripke_model.specs.System.{System, State}
use Rattle.kripke_model.specs.Step.{Initial}
use Rattle.kripke_model.specs.Path.{Lasso, at}
use Rattle.kripke_model.specs.Truth.{IsFair}
use Rattle.kripke_model.specs.Walk.{IsFairWalk}
use Rattle.state_reach.specs.States.{HoldsAt}

-- a pair of strong fairness, or of compassion
pub record Pair : Type 0 where
  pub p : Term
  pub q : Term

-- for each pair with a state of p on the cycle there is a state of q on the cycle
abbrev pub IsCompassionate : System → List Pair → Lasso → Type 0
IsCompassionate m pairs lasso
    = All (λ pair. Any (HoldsAt m pair.p) lasso.cycle → Any (HoldsAt m pair.q) lasso.cycle) pairs

-- a fair, compassionate path from an initial state
pub record IsStrongPath (m : System) (pairs : List Pair) (lasso : Lasso) : Type 0 where
  pub fair : IsFair m lasso
  pub compassionate : IsCompassionate m pairs lasso
  pub initial : Initial m (at lasso 0)

abbrev pub HasStrongPath : System → List Pair → Type 0
HasStrongPath m pairs = (lasso : Lasso) × IsStrongPath m pairs lasso

-- ---- infinite sequences, looping or not

-- P holds again and again: from no place on does it hold never
abbrev pub Recurs : (State → Type 0) → (ℕ → State) → Type 0
Recurs P w = (n : ℕ) → ((k : ℕ) → n ≤ k → P (w k) → ⊥) → ⊥

-- a fair sequence from an initial state, on which with p of a pair its q holds again and again
pub record IsStrongWalk (m : System) (pairs : List Pair) (w : ℕ → State) : Type 0 where
  pub fair : IsFairWalk m w
  pub initial : Initial m (w 0)
  pub compassionate : All (λ pair. Recurs (HoldsAt m pair.p) w → Recurs (HoldsAt m pair.q) w) pairs
