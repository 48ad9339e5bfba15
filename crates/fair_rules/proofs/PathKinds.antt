-- The fair paths of a model, and all its paths, as paths that are fair to numbered constraints.
use Rattle.std.proofs.Common.{ℕ, ◌<◌, length, get_or, subst, arith, Any}
use Rattle.std.proofs.lemmas.List.{get_or_default}
use Rattle.kripke_model.specs.Term.{Term}
use Rattle.kripke_model.specs.Ctl.{formula_of}
use Rattle.kripke_model.specs.System.{System, State, Condition}
use Rattle.kripke_model.specs.Path.{Lasso, IsPath}
use Rattle.kripke_model.specs.Truth.{FreeSat, IsFair}
use Rattle.path_laws.specs.Fairness.{ConstraintHolds}
use Rattle.path_laws.specs.Fairness.{IsFairOver}

absent : Condition
absent = record { expr = Term.Running 0; line = 0 }

-- whatever stands past the end of the list
any_default : (m : System) (k : ℕ) (c : Condition) (s : State) → k < length m.constraints → FreeSat m (formula_of (get_or m.constraints k c).expr) s → ConstraintHolds m k s
any_default m k c s h x d = subst (λ y. FreeSat m (formula_of y.expr) s) (get_or_default m.constraints k c d h) x

pub from_fair : (m : System) (p : Lasso) → IsFair m p → IsFairOver m (length m.constraints) (ConstraintHolds m) p
from_fair m p fair = record { path = fair.path; met = met }
  where
    met : (k : ℕ) → k < length m.constraints → Any (ConstraintHolds m k) p.cycle
    met k h = let w : Any (FreeSat m (formula_of (get_or m.constraints k absent).expr)) p.cycle = fair.met k absent h in (w.0, w.1, w.2, w.3, any_default m k absent w.1 h w.4)

pub from_path : (m : System) (C : ℕ → State → Type 0) (p : Lasso) → IsPath m p → IsFairOver m 0 C p
from_path m C p path = record { path = path; met = λ k h. absurd (omega arith) }

pub to_path : (m : System) (C : ℕ → State → Type 0) (p : Lasso) → IsFairOver m 0 C p → IsPath m p
to_path m C p fair = fair.path
