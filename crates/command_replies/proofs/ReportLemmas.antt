-- The lines of the answers, one after the other, and the last line of the report.
use Rattle.std.proofs.Common.{◌≡◌, ℕ, List, [], ◌∷◌, ◌++◌, map, length, drop, refl, sym, arith, length-drop, append_assoc, codes, decimal}
use Rattle.std.specs.Prelude.{count_by, min}
use Rattle.std.proofs.lemmas.List.{length-map}
use Rattle.command_replies.specs.Answered.{answer_of}
use Rattle.command_replies.specs.Answers as plain
use Rattle.command_replies.specs.ProofReport.{answer_lines, answer_total, is_accepted, is_rejected, is_unanswered}
use Rattle.command_replies.specs.declared.answers.Answer.{Answer}
use Rattle.proof_text.specs.File.{Block}
use Rattle.smv_texts.specs.Texts.{line}

-- ---- the lines of the answers

-- no line is left where one of the lists ends
none_left : (blocks : List Block) (answers : List plain.Answer)
    → min (length blocks) (length answers) ≡ 0 → answer_lines blocks answers ≡ []
none_left [] answers none = refl
none_left (b ∷ blocks) [] none = refl
none_left (b ∷ blocks) (a ∷ answers) none = absurd (omega (arith, none))

pub lines_end : (blocks : List Block) (answers : List Answer) (n : ℕ)
    → n ≡ min (length blocks) (length answers)
    → answer_lines (drop n blocks) (map answer_of (drop n answers)) ≡ []
lines_end blocks answers n all =
    let size = length-map (drop n answers) answer_of in
    none_left (drop n blocks) (map answer_of (drop n answers))
    (omega (arith, all, length-drop n blocks, length-drop n answers, size))

-- ---- the last line

-- four words, each with a number, and the line feed
joined : (t a b c d e f g h : List ℕ)
    → (((t ++ (a ++ b)) ++ (c ++ d)) ++ (e ++ f)) ++ (g ++ h) ++ 10 ∷ []
    ≡ t ++ line (a ++ b ++ c ++ d ++ e ++ f ++ g ++ h)
joined t a b c d e f g h = simp append_assoc

-- how many answers there are, and how many of each kind
abbrev total_of : ℕ → ℕ → ℕ → ℕ → List ℕ
total_of all accepted rejected left = line (codes "total " ++ decimal all
    ++ codes " accepted " ++ decimal accepted
    ++ codes " rejected " ++ decimal rejected ++ codes " unanswered " ++ decimal left)

pub total : (answers : List Answer) (accepted rejected left : ℕ) (t t1 t2 t3 t4 t5 : List ℕ)
    → accepted ≡ count_by is_accepted (map answer_of answers)
    → rejected ≡ count_by is_rejected (map answer_of answers)
    → left ≡ count_by is_unanswered (map answer_of answers)
    → t1 ≡ t ++ (codes "total " ++ decimal (length answers))
    → t2 ≡ t1 ++ (codes " accepted " ++ decimal accepted)
    → t3 ≡ t2 ++ (codes " rejected " ++ decimal rejected)
    → t4 ≡ t3 ++ (codes " unanswered " ++ decimal left)
    → t5 ≡ t4 ++ 10 ∷ []
    → t5 ≡ t ++ answer_total (map answer_of answers)
total answers accepted rejected left t t1 t2 t3 t4 t5 a r u first second third fourth last =
    let all = sym (length-map answers answer_of) in
    let texts = joined t (codes "total ") (decimal (length answers))
    (codes " accepted ") (decimal accepted) (codes " rejected ") (decimal rejected)
    (codes " unanswered ") (decimal left) in
    let counts : total_of (length answers) accepted rejected left
    ≡ answer_total (map answer_of answers) = cc in
    cc
