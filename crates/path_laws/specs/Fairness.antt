-- Paths and infinite sequences that are fair to some constraints, each given as a property of states and numbered from 0.
use Rattle.std.specs.Prelude.{ℕ, ◌+◌, ◌<◌, ◌≤◌, Any}
use Rattle.std.specs.List.{slice_index_or}
use Rattle.kripke_model.specs.Ctl.{formula_of}
use Rattle.kripke_model.specs.System.{System, State, Condition}
use Rattle.kripke_model.specs.Step.{IsState, Step}
use Rattle.kripke_model.specs.Path.{Lasso, IsPath}
use Rattle.kripke_model.specs.Truth.{FreeSat}

-- each of the n constraints is true somewhere on the cycle
pub record IsFairOver (m : System) (n : ℕ) (C : ℕ → State → Type 0) (p : Lasso) : Type 0 where
  pub path : IsPath m p
  pub met : (k : ℕ) → k < n → Any (C k) p.cycle

-- each of the n constraints is true again and again
pub record IsWalkOver (m : System) (n : ℕ) (C : ℕ → State → Type 0) (w : ℕ → State) : Type 0 where
  pub states : (i : ℕ) → IsState m (w i)
  pub steps : (i : ℕ) → Step m (w i) (w (i + 1))
  pub met : (k : ℕ) → k < n → (i : ℕ) → (j : ℕ) × (i ≤ j) × C k (w j)

-- constraint k of the model is true at s
abbrev pub ConstraintHolds : System → ℕ → State → Type 0
ConstraintHolds m k s
    = (c : Condition) → FreeSat m (formula_of (slice_index_or m.constraints k c).expr) s
