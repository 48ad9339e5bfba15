-- Specifications without path operators, by their numbers.
use Rattle.std.specs.Prelude.{◌≡◌, ℕ, zero, suc, List, ◌∷◌, ◌++◌, All, Option, None, Some, IsSome}
use Rattle.std.specs.Prelude.{if◌then◌else◌, slice_get}
use Rattle.std.specs.Option.{option_and_then}
use Rattle.kripke_model.specs.Ctl as ctl
use Rattle.kripke_model.specs.Ctl.{Ctl}
use Rattle.kripke_model.specs.Term.{Term, has_path_operator}
use Rattle.kripke_model.specs.System.{System}

-- the expression, unless it holds a path operator
abbrev pub plain : Term → Option Term
plain e = if has_path_operator e then None else Some e

-- the expression of specification j, counted from 1, unless it holds a path operator
abbrev pub spec_leaf : System → ℕ → Option Term
spec_leaf m zero = None
spec_leaf m (suc j) = option_and_then (λ c. plain c.expr) (slice_get m.specs j)

-- specification j, counted from 1, is there and holds no path operator
abbrev pub NamesLeaf : System → ℕ → Type 0
NamesLeaf m j = IsSome (spec_leaf m j)

-- i is the first of the numbers whose specification isn't there, or holds a path operator
pub record IsFirstOther (m : System) (numbers : List ℕ) (i : ℕ) : Type 0 where
  pub front : List ℕ
  pub rest : List ℕ
  pub split : numbers ≡ front ++ i ∷ rest
  pub before : All (NamesLeaf m) front
  pub other : spec_leaf m i ≡ None

-- the expression of a formula that is a leaf
abbrev pub leaf_term : Ctl → Option Term
leaf_term (ctl.Leaf e) = Some e
leaf_term f = None
