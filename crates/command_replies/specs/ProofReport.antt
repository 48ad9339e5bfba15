-- The texts that are put where proofs are tested.
use Rattle.std.specs.Prelude.{ℕ, Bool, true, false, List, [], ◌∷◌, ◌++◌, length, codes, decimal, count_by}
use Rattle.proof_text.specs.File.{Block}
use Rattle.proof_text.specs.Lines.{claim_word}
use Rattle.proof_text.specs.declared.refusals.TextRefusal.{TextRefusal}
use Rattle.smv_texts.specs.Texts.{line}
use Rattle.command_replies.specs.Answers.{Answer, Accepted, Rejected, Unanswered}

-- ---- the report

abbrev pub answer_text : Answer → List ℕ
answer_text Accepted = codes "accepted"
answer_text (Rejected l) = codes "rejected line " ++ decimal l
answer_text (Unanswered limit) = codes "unanswered: node limit " ++ decimal limit

-- the block's specification, what it claims of it, and the answer
abbrev pub answer_line : Block → Answer → List ℕ
answer_line b a = line (codes "spec " ++ decimal b.spec ++ codes " " ++ claim_word b.proof.claim
    ++ codes " " ++ answer_text a)

abbrev pub answer_lines : List Block → List Answer → List ℕ
answer_lines [] answers = []
answer_lines (b ∷ blocks) [] = []
answer_lines (b ∷ blocks) (a ∷ answers) = answer_line b a ++ answer_lines blocks answers

abbrev pub is_accepted : Answer → Bool
is_accepted Accepted = true
is_accepted (Rejected l) = false
is_accepted (Unanswered limit) = false

abbrev pub is_rejected : Answer → Bool
is_rejected Accepted = false
is_rejected (Rejected l) = true
is_rejected (Unanswered limit) = false

abbrev pub is_unanswered : Answer → Bool
is_unanswered Accepted = false
is_unanswered (Rejected l) = false
is_unanswered (Unanswered limit) = true

abbrev pub answer_total : List Answer → List ℕ
answer_total answers = line (codes "total " ++ decimal (length answers)
    ++ codes " accepted " ++ decimal (count_by is_accepted answers)
    ++ codes " rejected " ++ decimal (count_by is_rejected answers)
    ++ codes " unanswered " ++ decimal (count_by is_unanswered answers))

-- the report of one answer for each block, in order
abbrev pub answers_report : List Block → List Answer → List ℕ
answers_report blocks answers = answer_lines blocks answers ++ answer_total answers

-- ---- no report

-- the node limit was met before the model was decided
abbrev pub unanswered_model : ℕ → List ℕ
unanswered_model limit = line (codes "model unanswered: node limit " ++ decimal limit)

-- why a proof file is refused; want of memory is no reason, and is never told
abbrev pub proof_reason : TextRefusal → List ℕ
proof_reason (TextRefusal.BadLine l) = codes "P1 line " ++ decimal l
proof_reason (TextRefusal.Truncated l) = codes "P2 line " ++ decimal l
proof_reason TextRefusal.BadOrder = codes "P3 line 2"
proof_reason (TextRefusal.BadNode l) = codes "P4 line " ++ decimal l
proof_reason TextRefusal.TooLong = codes "P5"
proof_reason TextRefusal.Memory = []

abbrev pub proof_refusal_line : TextRefusal → List ℕ
proof_refusal_line r = line (codes "refused " ++ proof_reason r)
