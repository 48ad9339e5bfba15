-- What is found of a trace: the first thing that is wrong with it, or nothing.
use Rattle.std.specs.Prelude.{ℕ, ◌+◌, ◌-◌, ◌<◌, Any, IsTrue, IsSomeAnd}
use Rattle.kripke_model.specs.Ctl.{Ctl}
use Rattle.kripke_model.specs.Falsifies.{is_traceable, FalsifiesFrom}
use Rattle.kripke_model.specs.Path.{Lasso, at, member_count, IsPath}
use Rattle.kripke_model.specs.Step.{Step, Initial}
use Rattle.kripke_model.specs.System.{System, IsConstraint}
use Rattle.kripke_model.specs.Truth.{IsFair, Initials}
use Rattle.fair_fixpoint.specs.Fairness.{IsTrueAt}
use Rattle.proof_form.specs.Shape.{spec_formula}
use Rattle.trace_files.specs.Trace.{Trace}
use Rattle.trace_check.specs.declared.judged.Judged.{Judged}
use Rattle.trace_check.specs.declared.judged.Judged.TheVariants as found

-- ---- what a trace is good for

-- the formula is traceable, and the path is fair, begins at an initial state and falsifies it
pub record IsWitness (m : System) (f : Ctl) (p : Lasso) : Type 0 where
  pub traceable : IsTrue (is_traceable f)
  pub initial : Initial m (at p 0)
  pub fair : IsFair m p
  pub falsifies : FalsifiesFrom m (at p) f 0

-- ---- what may be wrong

abbrev pub StepsAt : System → Lasso → ℕ → Type 0
StepsAt m p n = Step m (at p n) (at p (n + 1))

-- state n is the first that doesn't step to the next one, which after the last is the cycle's first
pub record IsFirstBreak (m : System) (p : Lasso) (n : ℕ) : Type 0 where
  pub within : n < member_count p
  pub breaks : StepsAt m p n → ⊥
  pub before : (k : ℕ) → k < n → StepsAt m p k

-- constraint k is true over all paths at some state of the cycle
abbrev pub MeetsOnCycle : System → Lasso → ℕ → Type 0
MeetsOnCycle m p k = Any (IsTrueAt m (k - 1)) p.cycle

-- constraint k is the first that no state of the cycle meets
pub record IsFirstUnmet (m : System) (p : Lasso) (k : ℕ) : Type 0 where
  pub known : IsConstraint m k
  pub unmet : MeetsOnCycle m p k → ⊥
  pub before : (j : ℕ) → IsConstraint m j → j < k → MeetsOnCycle m p j

-- ---- the first of these that applies

abbrev pub IsJudged : System → Ctl → Lasso → Judged → Type 0
IsJudged m f p found.Shape = IsTrue (is_traceable f) → ⊥
IsJudged m f p found.Initial = IsTrue (is_traceable f) × (Initial m (at p 0) → ⊥)
IsJudged m f p (found.Step n) = IsTrue (is_traceable f) × Initial m (at p 0) × IsFirstBreak m p n
IsJudged m f p (found.Unfair k)
    = IsTrue (is_traceable f) × Initial m (at p 0) × IsPath m p × IsFirstUnmet m p k
IsJudged m f p found.Property
    = IsTrue (is_traceable f) × Initial m (at p 0) × IsFair m p × (FalsifiesFrom m (at p) f 0 → ⊥)
IsJudged m f p found.Accepted = IsWitness m f p

-- of a trace file: by the formula of its specification
abbrev pub JudgedAs : System → Trace → Judged → Type 0
JudgedAs m t j = IsSomeAnd (spec_formula m t.spec) (λ f. IsJudged m f t.lasso j)

-- the file's path falsifies its specification
abbrev pub WitnessOf : System → Trace → Type 0
WitnessOf m t = IsSomeAnd (spec_formula m t.spec) (λ f. IsWitness m f t.lasso)

-- its specification is false
abbrev pub IsFalse : System → Trace → Type 0
IsFalse m t = IsSomeAnd (spec_formula m t.spec) (λ f. Initials m f → ⊥)
