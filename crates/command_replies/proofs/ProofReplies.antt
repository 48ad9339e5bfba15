-- The reply that a text is, by the word with which it begins.
use Rattle.std.proofs.Common.{◌≡◌, ◌∙◌, inl, inr, ℕ, List, [], ◌∷◌, ◌++◌, map, drop, None, refl, sym, ap}
use Rattle.std.specs.Global.{Vec}
use Rattle.bdd_nodes.specs.declared.refusal.Held.{Held}
use Rattle.kripke_model.specs.System.{System}
use Rattle.command_replies.specs.Answered.{AreAnswered, answer_of}
use Rattle.command_replies.specs.Answers as plain
use Rattle.command_replies.specs.Rechecked.{EndsAnswers, LeavesUnanswered, Rechecked}
use Rattle.command_replies.specs.ProofReport.{answers_report, proof_reason, proof_refusal_line, unanswered_model}
use Rattle.command_replies.specs.declared.answers.Answer.{Answer}
use Rattle.command_replies.specs.declared.answers.Answers.{Answers}
use Rattle.proof_text.specs.File.{Block, File}
use Rattle.proof_text.specs.Refuses.{Refuses}
use Rattle.proof_text.specs.Spells.{Spells}
use Rattle.proof_text.specs.declared.refusals.TextRefusal.{TextRefusal}
use Rattle.smv_texts.specs.Evidence.{IsMet}
use Rattle.smv_texts.specs.Replies.{Head, Spec, Total, Model, Refused, Reply, Gives, IsReply, head_word, saved_of}
use Rattle.smv_texts.specs.declared.ending.Ending.{Ending}
use Rattle.smv_texts.specs.declared.ending.Ending.TheVariants.{ProofRefused, Undecided}
use Rattle.smv_texts.specs.declared.reply.Reply as code

-- ---- the words

-- the report of no block begins with its last line
abbrev report_head : List Block → List plain.Answer → Head
report_head [] answers = Total
report_head (b ∷ blocks) [] = Total
report_head (b ∷ blocks) (a ∷ answers) = Spec

abbrev report_rest : List Block → List plain.Answer → List ℕ
report_rest [] answers = drop 6 (answers_report [] answers)
report_rest (b ∷ blocks) [] = drop 6 (answers_report (b ∷ blocks) [])
report_rest (b ∷ blocks) (a ∷ answers) = drop 5 (answers_report (b ∷ blocks) (a ∷ answers))

report_begins : (blocks : List Block) (answers : List plain.Answer)
    → answers_report blocks answers
    ≡ head_word (report_head blocks answers) ++ report_rest blocks answers
report_begins [] answers = refl
report_begins (b ∷ blocks) [] = refl
report_begins (b ∷ blocks) (a ∷ answers) = refl

refusal_begins : (r : TextRefusal)
    → proof_refusal_line r ≡ head_word Refused ++ (proof_reason r ++ 10 ∷ [])
refusal_begins r = refl

abbrev model_rest : ℕ → List ℕ
model_rest limit = drop 6 (unanswered_model limit)

model_begins : (limit : ℕ) → unanswered_model limit ≡ head_word Model ++ model_rest limit
model_begins limit = refl

-- ---- the replies

-- the report of what stands in a file and of what is answered so far
pub report_of_file : (file inside : File) (blocks : List Block) (given answers : List Answer)
    (text : List ℕ) → inside ≡ file → blocks ≡ inside.blocks → given ≡ answers
    → text ≡ answers_report blocks (map answer_of given)
    → text ≡ answers_report file.blocks (map answer_of answers)
report_of_file file inside blocks given answers text e f g is = cc

-- a text of this word that saves nothing
abbrev put : Head → List ℕ → Ending → Reply
put head rest ending = record { head = head; rest = rest; ending = ending; saves = None }

gives : (head : Head) (rest : List ℕ) (reply : code.Reply)
    → reply.text.items ≡ head_word head ++ rest → reply.saves ≡ None
    → Gives (put head rest reply.ending) reply
gives head rest reply text none = record { text = text; ending = refl; saves = ap saved_of none }

pub answered_reply : (m : System) (limit : ℕ) (bytes : List ℕ) (file : File) (found : Answers)
    (reply : code.Reply) → Spells m file bytes → AreAnswered m limit file.order file.blocks found
    → reply.text.items ≡ answers_report file.blocks (map answer_of found.answers.items)
    → EndsAnswers m limit (map answer_of found.answers.items) reply.ending
    → reply.saves ≡ None → IsReply (Rechecked m limit bytes) reply
answered_reply m limit bytes file found reply spelled all text ends none =
    let answers : List plain.Answer = map answer_of found.answers.items in
    let head = report_head file.blocks answers in
    let rest = report_rest file.blocks answers in (
      put head rest reply.ending,
      gives head rest reply (text ∙ report_begins file.blocks answers) none,
      inr (record {
        file = file;
        spelled = spelled;
        answers = answers;
        answered = all.each;
        text = sym (report_begins file.blocks answers);
        ends = ends;
        saves = refl;
      }),
    )

pub refused_reply : (m : System) (limit : ℕ) (bytes : List ℕ) (refusal : TextRefusal)
    (reply : code.Reply) → Refuses m bytes refusal → reply.text.items ≡ proof_refusal_line refusal
    → reply.ending ≡ ProofRefused → reply.saves ≡ None → IsReply (Rechecked m limit bytes) reply
refused_reply m limit bytes refusal reply applies text ends none =
    let rest = proof_reason refusal ++ 10 ∷ [] in (
      put Refused rest reply.ending,
      gives Refused rest reply (text ∙ refusal_begins refusal) none,
      inl (record {
        refusal = refusal;
        applies = applies;
        text = sym (refusal_begins refusal);
        ends = ends;
        saves = refl;
      }),
    )

pub model_reply : (m : System) (limit : ℕ) (held : Vec Held) (full : Held) (reply : code.Reply)
    → IsMet m limit full → held.items ≡ full ∷ [] → reply.text.items ≡ unanswered_model limit
    → reply.ending ≡ Undecided held → reply.saves ≡ None → IsReply (LeavesUnanswered m limit) reply
model_reply m limit held full reply of_limit one text ends none = (
  put Model (model_rest limit) reply.ending,
  gives Model (model_rest limit) reply (text ∙ model_begins limit) none,
  record {
    held = held;
    full = full;
    one = one;
    of_limit = of_limit;
    text = sym (model_begins limit);
    ends = ends;
    saves = refl;
  },
)
