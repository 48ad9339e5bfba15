-- A part that is all of a text, with nothing behind it, and why a text is none.
use Rattle.std.specs.Prelude.{◌≡◌, ℕ, ◌+◌, ◌<◌, Bool, false, List, [], length, map, take}
use Rattle.text_lines.specs.Cursor.{Place}
use Rattle.text_lines.specs.Formats.{Begins}
use Rattle.text_lines.specs.Found.{GoodIf}
use Rattle.text_lines.specs.WholeLines.{lines_in, rest_in}
use Rattle.text_lines.specs.declared.faults.Fault.{Fault}
use Rattle.text_lines.specs.declared.faults.Fault.TheVariants.{Stops, Breaks, End, Memory}

module _ {Line Text : Type 0} (text : Line → Text) (Good : Line → Type 0) {X : Type 0}
    (Fits : X → Type 0) (lines : X → List Line) where
  -- some part begins with the lines before line k, and none with line k too
  pub record LeavesOff (texts : List Text) (k : ℕ) : Type 0 where
    pub within : k < length texts
    pub before : Begins text Good Fits lines (take k texts)
    pub after : Begins text Good Fits lines (take (k + 1) texts) → ⊥

module _ {Line X : Type 0} (text : Line → List ℕ) (Good : Line → Type 0) (Fits : X → Type 0)
    (lines : X → List Line) where
  -- Stops: no part has the line there. Breaks: some part has, but none whose lines keep the rules. End: all lines begin a part, and none is the whole text.
  abbrev pub IsTextFault : Place → Fault → Type 0
  IsTextFault place (Stops l)
      = (k : ℕ) × (l ≡ place.line + k)
      × ((asked : Bool) → LeavesOff text (GoodIf Good asked) Fits lines (lines_in place.left) k)
  IsTextFault place (Breaks l)
      = (k : ℕ) × (l ≡ place.line + k) × LeavesOff text Good Fits lines (lines_in place.left) k
      × Begins text (GoodIf Good false) Fits lines (take (k + 1) (lines_in place.left))
  IsTextFault place End
      = Begins text Good Fits lines (lines_in place.left)
      × ((part : X) → Fits part → lines_in place.left ≡ map text (lines part)
      → rest_in place.left ≡ [] → ⊥)
  IsTextFault place Memory = Unit {0}
