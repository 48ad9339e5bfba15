-- The reply to a proof file of a model without faults, within a node limit.
use Rattle.std.specs.Prelude.{◌≡◌, ◌⊎◌, ℕ, ◌<◌, List, [], ◌∷◌, length, All, None, count_by}
use Rattle.std.specs.Global.{Vec}
use Rattle.bdd_nodes.specs.declared.refusal.Held.{Held}
use Rattle.kripke_model.specs.System.{System}
use Rattle.proof_text.specs.File.{File}
use Rattle.proof_text.specs.Refuses.{Refuses}
use Rattle.proof_text.specs.Spells.{Spells}
use Rattle.proof_text.specs.declared.refusals.TextRefusal.{TextRefusal}
use Rattle.smv_texts.specs.Evidence.{IsMet, IsOfLimit}
use Rattle.smv_texts.specs.Replies.{Reply, text_of}
use Rattle.smv_texts.specs.declared.ending.Ending.{Ending}
use Rattle.smv_texts.specs.declared.ending.Ending.TheVariants.{Clear, Failed, Undecided, ProofRefused}
use Rattle.command_replies.specs.Answers.{Answer, AreAnswers}
use Rattle.command_replies.specs.ProofReport.{answers_report, is_rejected, is_unanswered, proof_refusal_line, unanswered_model}

-- The ending is the greatest that applies: to an unanswered block, each of which has its full
-- store, then to a rejected one, then to none.
abbrev pub EndsAnswers : System → ℕ → List Answer → Ending → Type 0
EndsAnswers m limit answers Clear =
    (count_by is_unanswered answers ≡ 0) × (count_by is_rejected answers ≡ 0)
EndsAnswers m limit answers Failed =
    (count_by is_unanswered answers ≡ 0) × (0 < count_by is_rejected answers)
EndsAnswers m limit answers (Undecided held) = All (IsOfLimit m limit) held.items
    × (0 < length held.items) × (length held.items ≡ count_by is_unanswered answers)
EndsAnswers m limit answers ending = ⊥

-- the text is no proof file of the model: its line is put
pub record IsProofRefused (m : System) (bytes : List ℕ) (r : Reply) : Type 0 where
  pub refusal : TextRefusal
  pub applies : Refuses m bytes refusal
  pub text : text_of r ≡ proof_refusal_line refusal
  pub ends : r.ending ≡ ProofRefused
  pub saves : r.saves ≡ None

-- each block is answered
pub record IsAnswered (m : System) (limit : ℕ) (bytes : List ℕ) (r : Reply) : Type 0 where
  pub file : File
  pub spelled : Spells m file bytes
  pub answers : List Answer
  pub answered : AreAnswers m limit file.order file.blocks answers
  pub text : text_of r ≡ answers_report file.blocks answers
  pub ends : EndsAnswers m limit answers r.ending
  pub saves : r.saves ≡ None

-- the reply to the bytes of a proof file
abbrev pub Rechecked : System → ℕ → List ℕ → Reply → Type 0
Rechecked m limit bytes r = IsProofRefused m bytes r ⊎ IsAnswered m limit bytes r

-- The limit was met before the model was known to have no fault: one full store is the evidence, and
-- the limit is below what is enough. No proof file is looked at.
pub record LeavesUnanswered (m : System) (limit : ℕ) (r : Reply) : Type 0 where
  pub held : Vec Held
  pub full : Held
  pub one : held.items ≡ full ∷ []
  pub of_limit : IsMet m limit full
  pub text : text_of r ≡ unanswered_model limit
  pub ends : r.ending ≡ Undecided held
  pub saves : r.saves ≡ None
