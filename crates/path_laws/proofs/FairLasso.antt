-- A fair walk of a model has a fair path of its own states.
use Rattle.std.proofs.Common.{ℕ, ◌<◌, ◌≤◌, length, get_or, subst}
use Rattle.std.proofs.lemmas.List.{get_or_default}
use Rattle.std.specs.Prelude.{Any}
use Rattle.kripke_model.specs.Term.{Term}
use Rattle.kripke_model.specs.Ctl.{formula_of}
use Rattle.kripke_model.specs.System.{System, State, Condition}
use Rattle.kripke_model.specs.Path.{Lasso}
use Rattle.kripke_model.specs.Truth.{FreeSat, IsFair}
use Rattle.kripke_model.specs.Walk.{IsFairWalk}
use Rattle.path_laws.specs.Fairness.{IsFairOver, IsWalkOver, ConstraintHolds}
use Rattle.path_laws.proofs.WalkLasso.{Follows, walk_lasso}

absent : Condition
absent = record { expr = Term.Running 0; line = 0 }

-- whatever stands past the end of the list
any_default : (m : System) (k : ℕ) (c : Condition) (s : State) → k < length m.constraints → FreeSat m (formula_of (get_or m.constraints k c).expr) s → ConstraintHolds m k s
any_default m k c s h x d = subst (λ y. FreeSat m (formula_of y.expr) s) (get_or_default m.constraints k c d h) x

-- the fair paths of a model are those that are fair to its numbered constraints
pub to_fair : (m : System) (p : Lasso) → IsFairOver m (length m.constraints) (ConstraintHolds m) p → IsFair m p
to_fair m p fair = record { path = fair.path; met = λ k c h. let w : Any (ConstraintHolds m k) p.cycle = fair.met k h in (w.0, w.1, w.2, w.3, w.4 c) }

pub from_fair_walk : (m : System) (w : ℕ → State) → IsFairWalk m w → IsWalkOver m (length m.constraints) (ConstraintHolds m) w
from_fair_walk m w fair = record { states = fair.states; steps = fair.steps; met = met }
  where
    met : (k : ℕ) → k < length m.constraints → (i : ℕ) → (j : ℕ) × (i ≤ j) × ConstraintHolds m k (w j)
    met k h i = let x : (j : ℕ) × (i ≤ j) × FreeSat m (formula_of (get_or m.constraints k absent).expr) (w j) = fair.met k absent h i in (x.0, x.1, any_default m k absent (w x.0) h x.2)

-- the path agrees with the walk as far as one likes
pub fair_lasso_of : (m : System) (w : ℕ → State) → IsFairWalk m w → (far : ℕ) → (p : Lasso) × IsFair m p × Follows p w far
fair_lasso_of m w fair far =
    let l = walk_lasso m (length m.constraints) (ConstraintHolds m) w (from_fair_walk m w fair) far in
    (l.0, to_fair m l.0 l.1, l.2)
