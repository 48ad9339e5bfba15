-- The order of states: by the places of their values in the variables' types, the first variable first.
use Rattle.std.specs.Prelude.{◌≡◌, ◌⊎◌, ℕ, ◌<◌, List, [], ◌∷◌, Option, Some, None}
use Rattle.std.specs.List.{position}
use Rattle.kripke_model.specs.declared.expressions.Value.{Value}
use Rattle.kripke_model.specs.Evaluation.{same}
use Rattle.kripke_model.specs.System.{System, State, Variable}

-- where the value stands in the variable's type
abbrev pub place_in : Variable → Value → Option ℕ
place_in x v = position (same v) x.values

abbrev pub IsEarlier : Option ℕ → Option ℕ → Type 0
IsEarlier (Some i) (Some j) = i < j
IsEarlier (Some i) None = ⊥
IsEarlier None place = ⊥

-- at the first variable where they differ, the value of s stands earlier than that of t
abbrev pub IsBefore : List Variable → State → State → Type 0
IsBefore [] s t = ⊥
IsBefore (x ∷ xs) [] t = ⊥
IsBefore (x ∷ xs) (v ∷ s) [] = ⊥
IsBefore (x ∷ xs) (v ∷ s) (w ∷ t)
    = IsEarlier (place_in x v) (place_in x w) ⊎ ((v ≡ w) × IsBefore xs s t)

-- the first state that meets P, or none where none does
abbrev pub IsLeast : System → (State → Type 0) → Option State → Type 0
IsLeast m P None = (s : State) → P s → ⊥
IsLeast m P (Some s) = P s × ((t : State) → P t → IsBefore m.vars t s → ⊥)
