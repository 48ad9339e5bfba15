-- What is found of each specification of a model without faults: its truth, and what is shown where it is false.
use Rattle.std.specs.Prelude.{◌≡◌, ℕ, List, [], ◌∷◌, Option, Some, None, IsTrue}
use Rattle.kripke_model.specs.Ctl.{Ctl, formula_of}
use Rattle.kripke_model.specs.Falsifies.{is_traceable}
use Rattle.kripke_model.specs.Path.{Lasso}
use Rattle.kripke_model.specs.System.{System, State, Condition}
use Rattle.kripke_model.specs.Step.{IsState, Initial}
use Rattle.kripke_model.specs.Truth.{Sat, Initials}
use Rattle.kripke_model.specs.Order.{IsLeast}
use Rattle.smv_texts.specs.Report.{Outcome, True, False, Unknown, Finding}
use Rattle.trace_loop.specs.Traces.{IsTraced, IsTraceOf}

-- the verdict is the truth of the specification; where there is none the node limit is told
abbrev pub IsVerdict : System → ℕ → Ctl → Outcome → Type 0
IsVerdict m limit f True = Initials m f
IsVerdict m limit f (False s path) = Initials m f → ⊥
IsVerdict m limit f (Unknown met) = met ≡ limit

-- an initial state of the model at which the formula is false
abbrev pub Fails : System → Ctl → State → Type 0
Fails m f s = IsState m s × Initial m s × (Sat m f s → ⊥)

-- the least initial state at which the formula is false, or none where it is true at all of them
abbrev pub IsLeastFailing : System → Ctl → Option State → Type 0
IsLeastFailing m f None = Initials m f
IsLeastFailing m f (Some s) = IsLeast m (Fails m f) (Some s)

-- a path is shown exactly where the formula is traceable and some fair path begins at s; the path is fair, begins there
-- and falsifies the formula
abbrev pub ShowsPath : System → Ctl → State → Option Lasso → Type 0
ShowsPath m f s None = IsTraced m f s → ⊥
ShowsPath m f s (Some p) = IsTrue (is_traceable f) × IsTraceOf m f s p

-- with a false verdict the least failing initial state is shown, and a path from it
abbrev pub ShowsState : System → Ctl → Outcome → Type 0
ShowsState m f True = Unit {0}
ShowsState m f (False s path) = IsLeastFailing m f (Some s) × ShowsPath m f s path
ShowsState m f (Unknown met) = Unit {0}

-- the formula is decided, and what is shown is shown
abbrev pub IsDecided : System → Ctl → Outcome → Type 0
IsDecided m f True = Initials m f
IsDecided m f (False s path) = IsLeastFailing m f (Some s) × ShowsPath m f s path
IsDecided m f (Unknown met) = ⊥

-- one finding for each specification, in order, each as R says
abbrev pub EachFinding : (Ctl → Finding → Type 0) → List Condition → List Finding → Type 0
EachFinding R [] [] = Unit {0}
EachFinding R (c ∷ cs) (f ∷ fs) = R (formula_of c.expr) f × EachFinding R cs fs
EachFinding R cs fs = ⊥

abbrev pub AreVerdicts : System → ℕ → List Finding → Type 0
AreVerdicts m limit fs = EachFinding (λ f finding. IsVerdict m limit f finding.outcome) m.specs fs

abbrev pub ShowStates : System → List Finding → Type 0
ShowStates m fs = EachFinding (λ f finding. ShowsState m f finding.outcome) m.specs fs
