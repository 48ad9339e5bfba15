-- A text has one answer.
use Rattle.std.specs.Prelude.{◌≡◌, ℕ, true, List}
use Rattle.command_words.specs.Words.{Job}
use Rattle.kripke_model.specs.System.{System}
use Rattle.smv_session.specs.Jobs.{NamesLeaves}
use Rattle.smv_session.specs.Refuses.{Refuses}
use Rattle.smv_session.specs.Source.{HasModel, IsAccepted}
use Rattle.smv_texts.specs.Refusals.{Refusal, is_fault}

-- A text has one model at most, or is refused for one reason. Where the job names no specification
-- that is no set of states, one that has a model is refused for a fault of an item alone, and one
-- that is accepted is not refused.
pub record OneAnswer : Type 0 where
  pub model : (bytes : List ℕ) (m n : System) → HasModel bytes m → HasModel bytes n → m ≡ n
  pub refusal : (job : Job) (bytes : List ℕ) (r q : Refusal) → Refuses job bytes r
      → Refuses job bytes q → r ≡ q
  pub model_or_refusal : (job : Job) (bytes : List ℕ) (m : System) (r : Refusal) → HasModel bytes m
      → NamesLeaves job m → Refuses job bytes r → is_fault r ≡ true
  pub accepted_or_refusal : (job : Job) (bytes : List ℕ) (m : System) (r : Refusal)
      → IsAccepted bytes m → NamesLeaves job m → Refuses job bytes r → ⊥
