-- What is found of a line that has one text.
use Rattle.std.proofs.Common.{◌≡◌, ℕ, true, false, List, [], ◌∷◌, sym, ◌∙◌, true≢false}
use Rattle.std.specs.Prelude.{Some, None, Ok, Err}
use Rattle.std.specs.List.{join_with_byte}
use Rattle.std.specs.Str.{bytes_eq}
use Rattle.std.proofs.lemmas.Slice.Eq.{bytes_eq-Decides}
use Rattle.proof_text.specs.Lines.{Words, line_text}
use Rattle.proof_text.specs.Spells.{IsGoodLine}
use Rattle.text_lines.specs.Cursor.{Place, Takes}
use Rattle.text_lines.specs.Found.{IsFound}
use Rattle.text_lines.specs.declared.faults.Fault.TheVariants.{Stops, End}
use Rattle.text_lines.proofs.FoundLine.{line_is, line_stops, line_ends}

abbrev pub Always : Unit {0} → Type 0
Always x = Unit {0}

module _ (words : List (List ℕ)) (expected : List ℕ) (is : join_with_byte 32 words ≡ expected) (levels : ℕ) {old new : Place} where
  pub fixed_ends : Takes old None new → IsFound line_text (IsGoodLine levels) Always (λ x. Words words ∷ []) old (Err End) new
  fixed_ends last = line_ends {Good = IsGoodLine levels} {line = λ (x : Unit {0}). Words words} last (tt, tt)

  pub fixed_stops : {t : List ℕ} (l : ℕ) → Takes old (Some t) new → l ≡ old.line → bytes_eq t expected ≡ false → IsFound line_text (IsGoodLine levels) Always (λ x. Words words ∷ []) old (Err (Stops l)) new
  fixed_stops {t} l taken at other =
      line_stops {Good = IsGoodLine levels} {line = λ (x : Unit {0}). Words words} taken (tt, tt) (λ y fits e. true≢false (sym ((bytes_eq-Decides t expected).1 (sym e ∙ is)) ∙ other)) at

  pub fixed_is : {t : List ℕ} → Takes old (Some t) new → bytes_eq t expected ≡ true → IsFound line_text (IsGoodLine levels) Always (λ x. Words words ∷ []) old (Ok tt) new
  fixed_is {t} taken same = line_is {line = λ (x : Unit {0}). Words words} taken tt tt (is ∙ sym ((bytes_eq-Decides t expected).0 same))
