-- The leaves of formulas, and those of a model's formulas.
use Rattle.std.specs.Prelude.{◌≡◌, ◌⊎◌, Bool, true, false, All, Any}
use Rattle.kripke_model.specs.Term.{Term, has_path_operator}
use Rattle.kripke_model.specs.Ctl.{Ctl, formula_of}
use Rattle.kripke_model.specs.System.{System}

abbrev pub is_leaf : Ctl → Bool
is_leaf (Ctl.Leaf e) = true
is_leaf f = false

abbrev pub IsLeafOf : Term → Ctl → Type 0
IsLeafOf t (Ctl.Leaf e) = t ≡ e
IsLeafOf t (Ctl.Not f) = IsLeafOf t f
IsLeafOf t (Ctl.And f g) = IsLeafOf t f ⊎ IsLeafOf t g
IsLeafOf t (Ctl.Or f g) = IsLeafOf t f ⊎ IsLeafOf t g
IsLeafOf t (Ctl.Implies f g) = IsLeafOf t f ⊎ IsLeafOf t g
IsLeafOf t (Ctl.Iff f g) = IsLeafOf t f ⊎ IsLeafOf t g
IsLeafOf t (Ctl.Quant op f) = IsLeafOf t f
IsLeafOf t (Ctl.Until all f g) = IsLeafOf t f ⊎ IsLeafOf t g

-- the expression is a leaf of a constraint or of a specification
abbrev pub IsModelLeaf : System → Term → Type 0
IsModelLeaf m t
    = Any (λ c. IsLeafOf t (formula_of c.expr)) m.constraints
    ⊎ Any (λ c. IsLeafOf t (formula_of c.expr)) m.specs

-- each constraint is a leaf
abbrev pub HasLeafConstraints : System → Type 0
HasLeafConstraints m = All (λ c. has_path_operator c.expr ≡ false) m.constraints

-- each leaf is one of the model's constraints or specifications
abbrev pub HasModelLeaves : System → Ctl → Type 0
HasModelLeaves m f = (t : Term) → IsLeafOf t f → IsModelLeaf m t
