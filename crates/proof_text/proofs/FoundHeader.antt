-- What is found of a header.
use Rattle.std.proofs.Common.{◌≡◌, ℕ, List, [], ◌∷◌, length, refl}
use Rattle.std.specs.Prelude.{Option, Some, None, Result, Ok, Err, MatchOption}
use Rattle.std.specs.Global.{Vec}
use Rattle.std.specs.Option.{ok_or}
use Rattle.kripke_model.specs.System.{System}
use Rattle.bit_encode.proofs.Declared.{declared_names}
use Rattle.bit_encode.specs.Code.{declared}
use Rattle.proof_text.specs.FileParts.{FitsOrder, order_line, version_line}
use Rattle.proof_text.specs.Lines.{Line, header_lines, line_text}
use Rattle.proof_text.specs.SetParts.{Finds, in_list}
use Rattle.proof_text.specs.Spells.{IsGoodLine}
use Rattle.proof_text.proofs.FoundFixed.{Always}
use Rattle.text_lines.specs.Cursor.{Place, Takes}
use Rattle.text_lines.specs.Formats.{AreKnown, FitBoth, lines_of_both}
use Rattle.text_lines.specs.Found.{IsFound}
use Rattle.text_lines.specs.declared.faults.Fault.{Fault}
use Rattle.text_lines.specs.declared.faults.Fault.TheVariants.{Stops, End}
use Rattle.text_lines.proofs.FoundInTurn.{both_found, first_fault, last_fault}
use Rattle.text_lines.proofs.FoundLine.{line_is, line_stops, line_ends}
use Rattle.text_lines.proofs.FoundRenamed.{renamed_ok, renamed_fault}

pub some_fits : (m : System) → (order : List ℕ) × FitsOrder m order
some_fits m = (declared (length m.vars), declared_names (length m.vars))

-- the line of the order, which is judged
module _ (m : System) {old new : Place} where
  pub order_ends : Takes old None new → Finds (FitsOrder m) (λ order. order_line m order ∷ []) old (Err End) new
  order_ends last = λ levels. line_ends {Good = IsGoodLine levels} {line = order_line m} last (some_fits m)

  pub order_judged : {t : List ℕ} {l : ℕ} → Takes old (Some t) new → l ≡ old.line → (r : Option (Vec ℕ))
      → MatchOption r ((order : List ℕ) → FitsOrder m order → line_text (order_line m order) ≡ t → ⊥) (λ order. FitsOrder m order.items × (line_text (order_line m order.items) ≡ t))
      → Finds (FitsOrder m) (λ order. order_line m order ∷ []) old (in_list (ok_or r (Stops l))) new
  order_judged taken at (Some order) j = λ levels. line_is {line = order_line m} taken j.0 tt j.1
  order_judged taken at None j = λ levels. line_stops {Good = IsGoodLine levels} {line = order_line m} taken (some_fits m) j at

abbrev Nothing : Type 0
Nothing = Unit {0}

-- a line that is known beforehand
pub line_alone : {Line : Type 0} (text : Line → List ℕ) (Good : Line → Type 0) (line : Line) → AreKnown text Good Always (λ x. line ∷ [])
line_alone text Good line a b fit_a fit_b behind after e = refl

abbrev both : System → Nothing × List ℕ → Type 0
both m = FitBoth Always (λ x. FitsOrder m)

abbrev both_lines : System → Nothing × List ℕ → List Line
both_lines m = lines_of_both (λ x. version_line m ∷ []) (λ x order. order_line m order ∷ [])

module _ (m : System) (levels : ℕ) where
  pub no_version : {old new : Place} (fault : Fault) → Finds Always (λ x. version_line m ∷ []) old (Err fault) new → IsFound line_text (IsGoodLine levels) (FitsOrder m) (header_lines m) old (Err fault) new
  no_version fault found =
      renamed_fault {FitsX = both m} {lines_x = both_lines m} (λ p. p.1) (λ order. (tt, order)) (λ p. refl) (λ p fits. fits.1) (λ order. refl) (λ order fits. (tt, fits))
      (first_fault (λ x. FitsOrder m) (λ x order. order_line m order ∷ []) (λ x fits. some_fits m) (found levels))

  pub header_found : {old mid new : Place} (result : Result (List ℕ) Fault) → Finds Always (λ x. version_line m ∷ []) old (Ok tt) mid → Finds (FitsOrder m) (λ order. order_line m order ∷ []) mid result new
      → IsFound line_text (IsGoodLine levels) (FitsOrder m) (header_lines m) old result new
  header_found (Ok order) version found =
      renamed_ok {FitsX = both m} {lines_x = both_lines m} (λ p. p.1) (λ order. (tt, order)) (λ p. refl) (λ p fits. fits.1) (λ order. refl) (λ order fits. (tt, fits))
      (both_found (λ x. FitsOrder m) (λ x order. order_line m order ∷ []) (version levels) (found levels))
  header_found (Err fault) version found =
      renamed_fault {FitsX = both m} {lines_x = both_lines m} (λ p. p.1) (λ order. (tt, order)) (λ p. refl) (λ p fits. fits.1) (λ order. refl) (λ order fits. (tt, fits))
      (last_fault (λ x. FitsOrder m) (λ x order. order_line m order ∷ []) (line_alone line_text (IsGoodLine levels) (version_line m)) (version levels) (found levels))
