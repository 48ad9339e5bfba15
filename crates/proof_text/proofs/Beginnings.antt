-- Beginnings of files.
use Rattle.std.proofs.Common.{◌≡◌, ℕ, zero, suc, ◌≤◌, List, [], ◌∷◌, ◌++◌, length, map, take, refl, ◌∙◌, ap, subst, arith, append_assoc}
use Rattle.std.specs.Prelude.{All}
use Rattle.std.proofs.lemmas.List.Elements.{All-nil, All-cons, All-head, All-tail}
use Rattle.kripke_model.specs.System.{System}
use Rattle.proof_text.specs.Lines.{Line, line_text, file_lines}
use Rattle.proof_text.specs.Spells.{IsGoodLine}
use Rattle.bit_encode.specs.Code.{state_bits}
use Rattle.proof_text.specs.Refuses.{MayBegin, Begins}

-- the first lines of a list, with what they are and the others
record Parted (P : Line → Type 0) (j : ℕ) (lines : List Line) : Type 0 where
  pub front : List Line
  pub rest : List Line
  pub whole : lines ≡ front ++ rest
  pub texts : map line_text front ≡ take j (map line_text lines)
  pub good : All P lines → All P front

part : (P : Line → Type 0) (j : ℕ) (lines : List Line) → Parted P j lines
part P zero lines = record { front = []; rest = lines; whole = refl; texts = refl; good = λ h. All-nil P }
part P (suc j) [] = record { front = []; rest = []; whole = refl; texts = refl; good = λ h. h }
part P (suc j) (l ∷ lines) =
    let p = part P j lines in
    record {
      front = l ∷ p.front;
      rest = p.rest;
      whole = ap (λ ls. l ∷ ls) p.whole;
      texts = ap (λ ts. line_text l ∷ ts) p.texts;
      good = λ h. All-cons P l p.front (All-head P l lines h) (p.good (All-tail P l lines h));
    }

pub begins_less : (m : System) (texts : List (List ℕ)) (j : ℕ) → Begins m texts → Begins m (take j texts)
begins_less m texts j (b, good) =
    let p = part (IsGoodLine (state_bits m)) j b.front in (
      record {
        file = b.file;
        is_file = b.is_file;
        front = p.front;
        rest = p.rest ++ b.rest;
        lines = b.lines ∙ ap (λ ls. ls ++ b.rest) p.whole ∙ append_assoc p.front p.rest b.rest;
        texts_are = p.texts ∙ ap (take j) b.texts_are;
      },
      p.good good,
    )

-- ---- the header has no nodes

first_line : List Line → Line → Line
first_line [] l = l
first_line (x ∷ xs) l = x

second_line : List Line → Line → Line
second_line [] l = l
second_line (x ∷ []) l = l
second_line (x ∷ y ∷ xs) l = y

-- so a beginning of at most two lines is good
pub header_is_good : (m : System) (texts : List (List ℕ)) → length texts ≤ 2 → MayBegin m texts → Begins m texts
unfolding first_line second_line
header_is_good m texts few b = (b, go b.front b.lines (ap length b.texts_are))
  where
    Good : Line → Type 0
    Good l = IsGoodLine (state_bits m) l

    go : (front : List Line) → file_lines m b.file ≡ front ++ b.rest → length (map line_text front) ≡ length texts → All (IsGoodLine (state_bits m)) front
    go [] e n = All-nil (IsGoodLine (state_bits m))
    go (x ∷ []) e n =
        All-cons (IsGoodLine (state_bits m)) x [] (subst (IsGoodLine (state_bits m)) (ap (λ ls. first_line ls x) e) tt) (All-nil (IsGoodLine (state_bits m)))
    go (x ∷ y ∷ []) e n =
        All-cons (IsGoodLine (state_bits m)) x (y ∷ []) (subst (IsGoodLine (state_bits m)) (ap (λ ls. first_line ls x) e) tt)
        (All-cons (IsGoodLine (state_bits m)) y [] (subst (IsGoodLine (state_bits m)) (ap (λ ls. second_line ls y) e) tt) (All-nil (IsGoodLine (state_bits m))))
    go (x ∷ y ∷ z ∷ front) e n = absurd (omega (arith, n, few))
