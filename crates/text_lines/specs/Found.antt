-- What a reader finds of a part at a place in a text.
use Rattle.std.specs.Prelude.{◌≡◌, ℕ, ◌+◌, ◌≤◌, Bool, true, false, List, length, take, Result, Ok, Err}
use Rattle.text_lines.specs.Cursor.{Place}
use Rattle.text_lines.specs.Formats.{Begins, IsRead, StopsAt, Ends}
use Rattle.text_lines.specs.WholeLines.{lines_in, rest_in}
use Rattle.text_lines.specs.declared.faults.Fault.{Fault}
use Rattle.text_lines.specs.declared.faults.Fault.TheVariants.{Stops, Breaks, End, Memory}

-- where the rules of lines are asked, a line is good by them; else each line is good
abbrev pub GoodIf : {Line : Type 0} → (Line → Type 0) → Bool → Line → Type 0
GoodIf Good true line = Good line
GoodIf Good false line = Unit {0}

-- lines have texts, and some keep the rules; a part fits, and has these lines
module _ {Line X : Type 0} (text : Line → List ℕ) (Good : Line → Type 0) (Fits : X → Type 0)
    (lines : X → List Line) where
  -- Stops: no part goes on at the line. Breaks: some part does, but none whose lines keep the rules. End: the lines end within a part.
  abbrev pub IsFault : Place → Place → Fault → Type 0
  IsFault old new (Stops l)
      = (k : ℕ) × (l ≡ old.line + k)
      × ((asked : Bool) → StopsAt text (GoodIf Good asked) Fits lines (lines_in old.left) k)
  IsFault old new (Breaks l)
      = (k : ℕ) × (l ≡ old.line + k) × StopsAt text Good Fits lines (lines_in old.left) k
      × Begins text (GoodIf Good false) Fits lines (take (k + 1) (lines_in old.left))
  IsFault old new End
      = Ends text Good Fits lines (lines_in old.left)
      × (new.line ≡ old.line + length (lines_in old.left))
  IsFault old new Memory = Unit {0}

  -- the part stands at the old place, and the new place is behind it
  pub record IsAt (old new : Place) (part : X) : Type 0 where
    pub read : IsRead text Good Fits lines part (lines_in old.left) (lines_in new.left)
    pub rest : rest_in new.left ≡ rest_in old.left
    pub line : new.line ≡ old.line + length (lines part)

  abbrev pub FindsAt : Place → Place → Result X Fault → Type 0
  FindsAt old new (Ok part) = IsAt old new part
  FindsAt old new (Err fault) = IsFault old new fault

  -- what is found, and no more bytes and lines are left than were
  pub record IsFound (old : Place) (result : Result X Fault) (new : Place) : Type 0 where
    pub finds : FindsAt old new result
    pub room : new.line + length new.left ≤ old.line + length old.left
