-- The last line of a report, and the states of a path.
use Rattle.std.proofs.Common.{◌≡◌, ◌∙◌, ℕ, ◌+◌, ◌<◌, List, [], ◌∷◌, ◌++◌, map, length, drop, ap, sym, count_by, append_assoc, codes, decimal, arith}
use Rattle.std.proofs.lemmas.List.{length-map}
use Rattle.smv_texts.specs.Report.{is_true, is_false, is_unknown, numbered, total_line}
use Rattle.smv_texts.specs.Texts.{line}
use Rattle.smv_texts.specs.Outcomes.{finding_of}
use Rattle.smv_texts.specs.declared.outcome.Finding.{Finding}

-- four words, each with a number, and the line feed
joined : (t a b c d e f g h : List ℕ) → (((t ++ a ++ b) ++ c ++ d) ++ e ++ f) ++ g ++ h ++ 10 ∷ [] ≡ t ++ line (a ++ b ++ c ++ d ++ e ++ f ++ g ++ h)
joined t a b c d e f g h = simp append_assoc

counted : (os : List Finding) (t : List ℕ)
    → (((t ++ codes "total " ++ decimal (length os)) ++ codes " true " ++ decimal (count_by is_true (map finding_of os))) ++ codes " false " ++ decimal (count_by is_false (map finding_of os)))
    ++ codes " unknown " ++ decimal (count_by is_unknown (map finding_of os)) ++ 10 ∷ [] ≡ t ++ total_line (map finding_of os)
counted os t =
    joined t (codes "total ") (decimal (length os)) (codes " true ") (decimal (count_by is_true (map finding_of os))) (codes " false ") (decimal (count_by is_false (map finding_of os)))
    (codes " unknown ") (decimal (count_by is_unknown (map finding_of os)))
    ∙ ap (λ (k : ℕ). t ++ line (codes "total " ++ decimal k ++ codes " true " ++ decimal (count_by is_true (map finding_of os))
    ++ codes " false " ++ decimal (count_by is_false (map finding_of os)) ++ codes " unknown " ++ decimal (count_by is_unknown (map finding_of os)))) (sym (length-map os finding_of))

pub total : (os : List Finding) (t t1 t2 t3 t4 t5 : List ℕ)
    → t1 ≡ t ++ codes "total " ++ decimal (length os)
    → t2 ≡ t1 ++ codes " true " ++ decimal (count_by is_true (map finding_of os))
    → t3 ≡ t2 ++ codes " false " ++ decimal (count_by is_false (map finding_of os))
    → t4 ≡ t3 ++ codes " unknown " ++ decimal (count_by is_unknown (map finding_of os))
    → t5 ≡ t4 ++ 10 ∷ []
    → t5 ≡ t ++ total_line (map finding_of os)
total os t t1 t2 t3 t4 t5 p q r s e =
    e ∙ ap (λ (x : List ℕ). x ++ 10 ∷ []) (s ∙ ap (λ (x : List ℕ). x ++ codes " unknown " ++ decimal (count_by is_unknown (map finding_of os))) (r
    ∙ ap (λ (x : List ℕ). x ++ codes " false " ++ decimal (count_by is_false (map finding_of os))) (q
    ∙ ap (λ (x : List ℕ). x ++ codes " true " ++ decimal (count_by is_true (map finding_of os))) p)))
    ∙ counted os t

-- ---- the states of a path

numbered-append : {A : Type 0} (text : ℕ → A → List ℕ) (k : ℕ) (xs ys : List A) → numbered text k (xs ++ ys) ≡ numbered text k xs ++ numbered text (k + length xs) ys
numbered-append text k [] ys = ap (λ (n : ℕ). numbered text n ys) (omega arith)
numbered-append text k (x ∷ xs) ys =
    ap (λ (rest : List ℕ). text k x ++ rest) (numbered-append text (k + 1) xs ys ∙ ap (λ (n : ℕ). numbered text (k + 1) xs ++ numbered text n ys) (omega arith))
    ∙ sym (append_assoc (text k x) (numbered text (k + 1) xs) (numbered text (k + length (x ∷ xs)) ys))

-- those of the stem, and then those of the cycle, without the first of all
pub further : {A : Type 0} (text : ℕ → A → List ℕ) (stem cycle : List A) (t t1 t2 : List ℕ) → 0 < length stem → t1 ≡ t ++ numbered text 1 (drop 1 stem) → t2 ≡ t1 ++ numbered text (length stem) cycle
    → t2 ≡ t ++ numbered text 1 (drop 1 (stem ++ cycle))
further text [] cycle t t1 t2 some p q = absurd (omega (arith, some))
further text (x ∷ xs) cycle t t1 t2 some p q =
    q ∙ ap (λ (front : List ℕ). front ++ numbered text (length (x ∷ xs)) cycle) p ∙ append_assoc t (numbered text 1 xs) (numbered text (length (x ∷ xs)) cycle)
    ∙ ap (λ (rest : List ℕ). t ++ rest) (ap (λ (n : ℕ). numbered text 1 xs ++ numbered text n cycle) (omega arith) ∙ sym (numbered-append text 1 xs cycle))

-- those of the stem, and then those of the cycle
pub from_first : {A : Type 0} (text : ℕ → A → List ℕ) (stem cycle : List A) (t t1 t2 : List ℕ) → t1 ≡ t ++ numbered text 0 stem → t2 ≡ t1 ++ numbered text (length stem) cycle
    → t2 ≡ t ++ numbered text 0 (stem ++ cycle)
from_first text stem cycle t t1 t2 p q =
    q ∙ ap (λ (front : List ℕ). front ++ numbered text (length stem) cycle) p ∙ append_assoc t (numbered text 0 stem) (numbered text (length stem) cycle)
    ∙ ap (λ (rest : List ℕ). t ++ rest) (ap (λ (n : ℕ). numbered text 0 stem ++ numbered text n cycle) (omega arith) ∙ sym (numbered-append text 0 stem cycle))
