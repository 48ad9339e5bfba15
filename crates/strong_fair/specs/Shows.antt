-- What a certificate has to show, row by row over the states that are left.
use Rattle.std.specs.Prelude.{ℕ, zero, suc, ◌-◌, List, [], ◌∷◌, Option, None, IsSomeAnd, slice_get}
use Rattle.kripke_model.specs.System.{System, State, IsConstraint}
use Rattle.kripke_model.specs.Step.{IsState, Step}
use Rattle.path_laws.specs.StateSet.{StateSet, ◌∈◌}
use Rattle.fair_fixpoint.specs.Fairness.{IsTrueAt}
use Rattle.state_reach.specs.Closed.{IsClosed}
use Rattle.state_reach.specs.States.{HoldsAt}
use Rattle.strong_fair.specs.declared.certificate.Reason.{Reason}
use Rattle.strong_fair.specs.declared.certificate.Reason.TheVariants as reasons
use Rattle.strong_fair.specs.Strong.{Pair}
use Rattle.strong_fair.specs.Form.{Row, Certificate}

-- the states that are left
abbrev pub Left : Type 1
Left = State → Type 0

-- pair i, counted from 1
abbrev pub pair_at : List Pair → ℕ → Option Pair
pair_at pairs zero = None
pair_at pairs (suc i) = slice_get pairs i

-- the states of a row's set that are left
abbrev pub InRow : StateSet → Left → Left
InRow set W s = (s ∈ set) × W s

-- no state of T has P
abbrev pub HasNone : System → Left → (State → Type 0) → Type 0
HasNone m T P = (s : State) → IsState m s → T s → P s → ⊥

-- no state of T has a next state in W
abbrev pub HasNoStep : System → Left → Left → Type 0
HasNoStep m T W = (s t : State) → IsState m s → IsState m t → T s → Step m s t → W t → ⊥

-- each next state of T that is in W is in T
abbrev pub Stays : System → Left → Left → Type 0
Stays m T W = (s t : State) → IsState m s → IsState m t → T s → Step m s t → W t → T t

-- what a row has to show, of the states W that are left and those of its set among them, T
abbrev pub RowShows : System → List Pair → Left → Left → Reason → Type 0
RowShows m pairs W T reasons.Dead = HasNoStep m T W
RowShows m pairs W T (reasons.Avoid k)
    = IsConstraint m k × Stays m T W × HasNone m T (IsTrueAt m (k - 1))
RowShows m pairs W T (reasons.Pair i)
    = Stays m T W × IsSomeAnd (pair_at pairs i) (λ pair. HasNone m T (HoldsAt m pair.q))

-- the row takes the state away: by a pair only where its p holds
abbrev pub Takes : System → List Pair → Left → Reason → Left
Takes m pairs T reasons.Dead s = T s
Takes m pairs T (reasons.Avoid k) s = T s
Takes m pairs T (reasons.Pair i) s = T s × IsSomeAnd (pair_at pairs i) (λ pair. HoldsAt m pair.p s)

-- the states that are left behind a row
abbrev pub Behind : System → List Pair → Left → Left → Reason → Left
Behind m pairs W T reason s = W s × (Takes m pairs T reason s → ⊥)

-- each row shows what it has to, and behind all of them no state is left
abbrev pub RowsShow : System → List Pair → Left → List (Row StateSet) → Type 0
RowsShow m pairs W [] = (s : State) → IsState m s → W s → ⊥
RowsShow m pairs W (row ∷ rows) =
    RowShows m pairs W (InRow row.set W) row.reason
    × RowsShow m pairs (Behind m pairs W (InRow row.set W) row.reason) rows

-- no strong path, as all paths stay in a set of which the rows leave nothing
pub record IsCertificate (m : System) (pairs : List Pair) (c : Certificate StateSet) : Type 0 where
  pub closed : IsClosed m c.inside
  pub rows : RowsShow m pairs (λ s. s ∈ c.inside) c.rows
