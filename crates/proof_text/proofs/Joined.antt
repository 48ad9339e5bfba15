-- A part of a head and a body is read where these are; so many in a row are read where each of them is.
use Rattle.std.proofs.Common.{◌≡◌, ℕ, ◌+◌, ◌<◌, ◌≤◌, List, [], ◌∷◌, ◌++◌, length, sym}
use Rattle.std.specs.Prelude.{Result, Ok, Err}
use Rattle.proof_text.specs.Lines.{Line, line_text}
use Rattle.proof_text.specs.SetParts.{Finds}
use Rattle.proof_text.specs.Spells.{IsGoodLine}
use Rattle.text_lines.specs.Cursor.{Place}
use Rattle.text_lines.specs.Formats.{AreKnown, FitBoth, FitMany, lines_of_both, lines_of_many}
use Rattle.text_lines.specs.declared.faults.Fault.{Fault}
use Rattle.text_lines.specs.declared.faults.Fault.TheVariants.{Memory}
use Rattle.text_lines.proofs.FoundInTurn.{both_found, first_fault, last_fault}
use Rattle.text_lines.proofs.FoundLine.{no_memory}
use Rattle.text_lines.proofs.FoundMany.{many_begun, many_more, many_fault}
use Rattle.proof_text.proofs.Formed.{IsForm, formed_ok, formed_fault}

-- parts are known by their lines
abbrev pub Known : {X : Type 0} → (X → Type 0) → (X → List Line) → Type 0
Known Fits lines = AreKnown line_text (IsGoodLine 0) Fits lines

-- memory may run out behind what was found
pub memory_found : {X : Type 0} {Fits : X → Type 0} {lines : X → List Line} {old new : Place} → new.line + length new.left ≤ old.line + length old.left → Finds Fits lines old (Err Memory) new
memory_found room = λ levels. no_memory room

pub room_of : {X : Type 0} {Fits : X → Type 0} {lines : X → List Line} {old new : Place} {r : Result X Fault} → Finds Fits lines old r new → new.line + length new.left ≤ old.line + length old.left
room_of found = (found 0).room

-- ---- another form

module _ {X Z : Type 0} {FitsX : X → Type 0} {lines_x : X → List Line} {FitsZ : Z → Type 0} {lines_z : Z → List Line} {to : X → Z} {from : Z → X} (form : IsForm FitsX lines_x FitsZ lines_z to from) {old new : Place} where
  pub form_ok : {x : X} → Finds FitsX lines_x old (Ok x) new → Finds FitsZ lines_z old (Ok (to x)) new
  form_ok found = λ levels. formed_ok form (found levels)

  pub form_fault : {fault : Fault} → Finds FitsX lines_x old (Err fault) new → Finds FitsZ lines_z old (Err fault) new
  form_fault found = λ levels. formed_fault form (found levels)

-- ---- a head and a body

pub record IsJoin {X Y Z : Type 0} (FitsX : X → Type 0) (lines_x : X → List Line) (FitsY : X → Y → Type 0) (lines_y : X → Y → List Line) (FitsZ : Z → Type 0) (lines_z : Z → List Line) (to : X × Y → Z) (from : Z → X × Y) : Type 0 where
  pub form : IsForm (FitBoth FitsX FitsY) (lines_of_both lines_x lines_y) FitsZ lines_z to from
  pub last : (x : X) → FitsX x → (y : Y) × FitsY x y
  pub known : Known FitsX lines_x

module _ {X Y Z : Type 0} {FitsX : X → Type 0} {lines_x : X → List Line} {FitsY : X → Y → Type 0} {lines_y : X → Y → List Line} {FitsZ : Z → Type 0} {lines_z : Z → List Line} {to : X × Y → Z} {from : Z → X × Y}
    (join : IsJoin FitsX lines_x FitsY lines_y FitsZ lines_z to from) {old : Place} where
  pub head_fault : {new : Place} {fault : Fault} → Finds FitsX lines_x old (Err fault) new → Finds FitsZ lines_z old (Err fault) new
  head_fault found = form_fault join.form (λ levels. first_fault FitsY lines_y join.last (found levels))

  pub body_fault : {mid new : Place} {x : X} {fault : Fault} → Finds FitsX lines_x old (Ok x) mid → Finds (FitsY x) (lines_y x) mid (Err fault) new → Finds FitsZ lines_z old (Err fault) new
  body_fault a found = form_fault join.form (λ levels. last_fault FitsY lines_y join.known (a levels) (found levels))

  pub whole_found : {mid new : Place} {x : X} {y : Y} → Finds FitsX lines_x old (Ok x) mid → Finds (FitsY x) (lines_y x) mid (Ok y) new → Finds FitsZ lines_z old (Ok (to (x, y))) new
  whole_found a b = form_ok join.form (λ levels. both_found FitsY lines_y (a levels) (b levels))

-- ---- so many in a row

pub record IsRow {X : Type 0} (Fits : List X → X → Type 0) (lines : List X → X → List Line) (FitsZ : ℕ → List X → Type 0) (lines_z : List X → List Line) : Type 0 where
  pub fits : (n : ℕ) (xs : List X) → FitMany Fits n [] xs → FitsZ n xs
  pub fits_back : (n : ℕ) (xs : List X) → FitsZ n xs → FitMany Fits n [] xs
  pub same_lines : (xs : List X) → lines_z xs ≡ lines_of_many lines [] xs
  pub next : (earlier : List X) → (x : X) × Fits earlier x
  pub known : (earlier : List X) → Known (Fits earlier) (lines earlier)

module _ {X : Type 0} {Fits : List X → X → Type 0} {lines : List X → X → List Line} {FitsZ : ℕ → List X → Type 0} {lines_z : List X → List Line} (row : IsRow Fits lines FitsZ lines_z) where
  to_row : (n : ℕ) → IsForm (FitMany Fits n []) (lines_of_many lines []) (FitsZ n) lines_z (λ xs. xs) (λ xs. xs)
  to_row n = record { fits = row.fits n; lines = λ xs fits. row.same_lines xs; fits_back = row.fits_back n; lines_back = λ xs fits. sym (row.same_lines xs) }

  of_row : (n : ℕ) → IsForm (FitsZ n) lines_z (FitMany Fits n []) (lines_of_many lines []) (λ xs. xs) (λ xs. xs)
  of_row n = record { fits = row.fits_back n; lines = λ xs fits. sym (row.same_lines xs); fits_back = row.fits n; lines_back = λ xs fits. row.same_lines xs }

  pub none_found : {place : Place} → Finds (FitsZ 0) lines_z place (Ok []) place
  none_found = form_ok (to_row 0) (λ levels. many_begun Fits lines)

  pub next_found : {old mid new : Place} {xs : List X} {y : X} (i : ℕ) → Finds (FitsZ i) lines_z old (Ok xs) mid → Finds (Fits xs) (lines xs) mid (Ok y) new → Finds (FitsZ (i + 1)) lines_z old (Ok (xs ++ y ∷ [])) new
  next_found i a b = form_ok (to_row (i + 1)) (λ levels. many_more Fits lines i (form_ok (of_row i) a levels) (b levels))

  pub row_fault : {old mid new : Place} {xs : List X} {fault : Fault} {i n : ℕ} → i < n → Finds (FitsZ i) lines_z old (Ok xs) mid → Finds (Fits xs) (lines xs) mid (Err fault) new → Finds (FitsZ n) lines_z old (Err fault) new
  row_fault {old} {mid} {new} {xs} {fault} {i} {n} less a found = form_fault (to_row n) (λ levels. many_fault Fits lines row.next row.known less (form_ok (of_row i) a levels) (found levels))
