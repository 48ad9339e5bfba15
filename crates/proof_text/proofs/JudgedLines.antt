-- A part of one line is read where the line is judged.
use Rattle.std.proofs.Common.{◌≡◌, inl, ℕ, List, [], ◌∷◌, Option, Some, None, sym, ◌∙◌, ap, subst}
use Rattle.std.specs.Prelude.{Err}
use Rattle.std.specs.Option.{ok_or}
use Rattle.proof_text.specs.Lines.{Line, Words, words_of, line_text}
use Rattle.proof_text.specs.SetParts.{Judges, Finds, FindsNext}
use Rattle.text_lines.specs.Cursor.{Place, Takes}
use Rattle.text_lines.specs.WholeLines.{lines_in}
use Rattle.text_lines.specs.Words.{AreWords}
use Rattle.text_lines.specs.declared.faults.Fault.TheVariants.{Stops, End}
use Rattle.text_lines.proofs.FoundLine.{line_is, line_stops, line_ends, taken_room}
use Rattle.text_lines.proofs.Lists.{same_first}
use Rattle.text_lines.proofs.Spaced.{joined_words}
use Rattle.proof_text.proofs.PlainWords.{IsPlainLine, each_word}

-- a text of a plain line has its words
pub words_at : (l : Line) (t : List ℕ) → IsPlainLine l → line_text l ≡ t → AreWords t (words_of l)
words_at l t plain is = subst (λ u. AreWords u (words_of l)) is (joined_words (words_of l) (each_word (words_of l) plain.0) plain.1)

module _ {X : Type 0} {Fits : X → Type 0} (ws : X → List (List ℕ)) (some : (x : X) × Fits x) where
  pub ended_found : {old new : Place} → Takes old None new → Finds Fits (λ x. Words (ws x) ∷ []) old (Err End) new
  ended_found taken = λ levels. line_ends taken some

  pub judged_found : ((x : X) → IsPlainLine (Words (ws x))) → {old new : Place} {t : List ℕ} {l : ℕ} → Takes old (Some t) new → (r : Option X) → Judges Fits (λ x. Words (ws x)) t r → l ≡ old.line
      → Finds Fits (λ x. Words (ws x) ∷ []) old (ok_or r (Stops l)) new
  judged_found plain {old} {new} {t} taken (Some x) j at = λ levels. line_is taken j.0 tt (sym j.1.joined)
  judged_found plain {old} {new} {t} taken None j at = λ levels. line_stops taken some (λ y fits is. j y fits (words_at (Words (ws y)) t (plain y) is)) at

-- a line that is judged to be none is the first of no part
pub judged_next : {X : Type 0} (Fits : X → Type 0) (ws : X → List (List ℕ)) → ((x : X) → IsPlainLine (Words (ws x))) → {old new : Place} {t : List ℕ} {l : ℕ} → Takes old (Some t) new
    → (r : Option X) → Judges Fits (λ x. Words (ws x)) t r → l ≡ old.line → FindsNext Fits (λ x. Words (ws x) ∷ []) old (ok_or r (Stops l)) new
judged_next Fits ws plain {old} {new} {t} taken (Some x) j at = λ levels. line_is taken j.0 tt (sym j.1.joined)
judged_next Fits ws plain {old} {new} {t} taken None j at = inl (record {
  text = t;
  shown = (lines_in new.left, taken.lines);
  none = λ x fits l ls whole is. j x fits (words_at (Words (ws x)) t (plain x) (ap line_text (same_first (Words (ws x)) l [] ls whole) ∙ is));
  is = ap (λ k. Stops k) at;
  room = taken_room taken;
})
