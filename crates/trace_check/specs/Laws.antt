-- What is proved of what is found of traces, as a statement on a model.
use Rattle.std.specs.Prelude.{◌≡◌, ◌↔◌}
use Rattle.kripke_model.specs.System.{System}
use Rattle.trace_files.specs.Trace.{Trace}
use Rattle.trace_files.specs.Spells.{IsTrace}
use Rattle.trace_check.specs.Judged.{JudgedAs, WitnessOf, IsFalse}
use Rattle.trace_check.specs.declared.judged.Judged.{Judged}
use Rattle.trace_check.specs.declared.judged.Judged.TheVariants as found

-- A trace is accepted exactly where the path falsifies the specification, which then is false. One thing is found of it.
pub record AreJudged (m : System) : Type 0 where
  pub accepted : (t : Trace) → JudgedAs m t found.Accepted ↔ WitnessOf m t
  pub sound : (t : Trace) → WitnessOf m t → IsFalse m t
  pub one : (t : Trace) (j k : Judged) → JudgedAs m t j → JudgedAs m t k → j ≡ k
  pub some : (t : Trace) → IsTrace m t → ((j : Judged) → JudgedAs m t j → ⊥) → ⊥
