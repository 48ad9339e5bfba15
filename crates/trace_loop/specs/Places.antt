-- Places of an infinite sequence of states from which it goes on in the same way.
use Rattle.std.specs.Prelude.{◌≡◌, ℕ, ◌+◌, ◌<◌, ◌≤◌}
use Rattle.kripke_model.specs.Ctl.{Ctl}
use Rattle.kripke_model.specs.Leaves.{IsLeafOf}
use Rattle.kripke_model.specs.System.{State}
use Rattle.kripke_model.specs.Term.{Term}
use Rattle.single_states.specs.Braces.{IsFilled}

-- from place x on the sequence is as from place y on
abbrev pub SameFrom : (ℕ → State) → ℕ → ℕ → Type 0
SameFrom w x y = (d : ℕ) → w (x + d) ≡ w (y + d)

-- the places from first on below the count stand for all places from i on, and for no others
pub record IsFirst (w : ℕ → State) (count i first : ℕ) : Type 0 where
  pub folded : (j : ℕ) → i ≤ j → (k : ℕ) × (first ≤ k) × (k < count) × SameFrom w j k
  pub unfolded : (k : ℕ) → first ≤ k → k < count → (j : ℕ) × (i ≤ j) × SameFrom w k j

-- no leaf has empty braces, so each has values or a fault
abbrev pub HasFilledLeaves : Ctl → Type 0
HasFilledLeaves f = (t : Term) → IsLeafOf t f → IsFilled t
