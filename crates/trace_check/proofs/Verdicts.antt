-- What is found of a path of the model.
use Rattle.std.proofs.Common.{ℕ, ◌<◌, [], subst, arith}
use Rattle.kripke_model.specs.Path.{Lasso, member_count, IsPath}
use Rattle.kripke_model.specs.Step.{IsState}
use Rattle.kripke_model.specs.System.{System, IsConstraint}
use Rattle.kripke_model.specs.Truth.{IsFair}
use Rattle.trace_files.specs.Spells.{IsLasso}
use Rattle.trace_check.specs.Judged.{MeetsOnCycle, StepsAt}
use Rattle.trace_check.proofs.Judge.{all_met}
use Rattle.trace_check.proofs.Members.{count_members, member_at}

module _ (m : System) (p : Lasso) where
  pub path_of : IsLasso m p → ((n : ℕ) → n < member_count p → StepsAt m p n) → IsPath m p
  path_of is steps = record {
    loops = is.loops;
    states = λ n less. subst (IsState m) (member_at p n less) (is.states n [] (omega (arith, count_members p, less)));
    steps = steps;
  }

  pub fair_of : IsPath m p → ((k : ℕ) → IsConstraint m k → MeetsOnCycle m p k) → IsFair m p
  fair_of path met = record { path = path; met = all_met m p met }
