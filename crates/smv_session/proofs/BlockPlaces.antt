-- What is answered to the first blocks of a file, and to one more.
use Rattle.std.proofs.Common.{◌≡◌, ℕ, suc, ◌+◌, ◌<◌, List, [], ◌∷◌, ◌++◌, length, take, get_or, ◌∙◌, sym, ap, subst, arith}
use Rattle.std.proofs.Math.Seq.{take-suc}
use Rattle.kripke_model.specs.System.{System}
use Rattle.command_replies.specs.Answered.{AreAnswered}
use Rattle.command_replies.specs.declared.answers.Answers.{Answers}
use Rattle.proof_checker.specs.Answers.{IsAnswerTo}
use Rattle.proof_checker.specs.declared.checking.Answer.{Answer}
use Rattle.proof_text.specs.File.{Block}

module _ (m : System) (limit : ℕ) (order : List ℕ) (blocks items : List Block) (same : items ≡ blocks) (i : ℕ) (b : Block) (here : b ≡ get_or items i b) (below : i < length items) where
  pub answered_more : (found : Answers) → AreAnswered m limit order (take i blocks ++ b ∷ []) found → AreAnswered m limit order (take (i + 1) blocks) found
  answered_more found h =
      let within : i < length blocks = subst (λ (bs : List Block). i < length bs) same below in
      let next : i + 1 ≡ suc i = omega arith in
      let is : get_or blocks i b ≡ b = sym (here ∙ ap (λ (bs : List Block). get_or bs i b) same) in
      subst (λ bs. AreAnswered m limit order bs found)
      (sym (ap (λ (n : ℕ). take n blocks) next ∙ take-suc blocks i b within ∙ ap (λ (x : Block). take i blocks ++ x ∷ []) is)) h

-- the answer to a block of a file in the file's order
pub answer_in : (m : System) (limit : ℕ) (order found : List ℕ) (b : Block) (a : Answer) → found ≡ order → IsAnswerTo m found b limit a → IsAnswerTo m order b limit a
answer_in m limit order found b a same is = subst (λ o. IsAnswerTo m o b limit a) same is
