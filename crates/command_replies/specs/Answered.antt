-- What the code answers, as the definitions have it.
use Rattle.std.specs.Prelude.{◌≡◌, ℕ, List, length, map, count_by, All}
use Rattle.kripke_model.specs.System.{System}
use Rattle.proof_text.specs.File.{Block}
use Rattle.smv_texts.specs.Evidence.{IsOfLimit}
use Rattle.command_replies.specs.Answers as answers
use Rattle.command_replies.specs.Answers.{AreAnswers}
use Rattle.command_replies.specs.ProofReport.{is_unanswered}
use Rattle.command_replies.specs.declared.answers.Answer.{Answer}
use Rattle.command_replies.specs.declared.answers.Answer.TheVariants.{Accepted, Rejected, Unanswered}
use Rattle.command_replies.specs.declared.answers.Answers.{Answers}

abbrev pub answer_of : Answer → answers.Answer
answer_of Accepted = answers.Accepted
answer_of (Rejected l) = answers.Rejected l
answer_of (Unanswered limit) = answers.Unanswered limit

-- what is answered to each of these blocks, and the full stores that show where the limit was met
pub record AreAnswered (m : System) (limit : ℕ) (order : List ℕ) (blocks : List Block)
    (found : Answers) : Type 0 where
  pub each : AreAnswers m limit order blocks (map answer_of found.answers.items)
  pub held : All (IsOfLimit m limit) found.held.items
  pub count : length found.held.items ≡ count_by is_unanswered (map answer_of found.answers.items)
