-- Where a text ceases to be the beginning of a file, as a reader finds it.
use Rattle.std.specs.Prelude.{◌≡◌, ℕ, ◌+◌, ◌<◌, List, length, take, Result, Ok, Err}
use Rattle.kripke_model.specs.System.{System}
use Rattle.proof_text.specs.File.{File}
use Rattle.proof_text.specs.Lines.{file_lines, text_of}
use Rattle.proof_text.specs.Refuses.{MayBegin, Begins}
use Rattle.proof_text.specs.Spells.{IsFile, Spells}
use Rattle.text_lines.specs.Cursor.{Place}
use Rattle.text_lines.specs.WholeLines.{lines_in}
use Rattle.text_lines.specs.declared.faults.Fault.{Fault}
use Rattle.text_lines.specs.declared.faults.Fault.TheVariants.{Stops, Breaks, End, Memory}

-- No file goes on at the line, or one does whose node breaks the rules, or the lines end within a file; the reader stands at line n.
abbrev pub IsFileFault : System → List ℕ → ℕ → Fault → Type 0
IsFileFault m bytes n (Stops l)
    = (k : ℕ) × (l ≡ k + 1) × (k < length (lines_in bytes)) × Begins m (take k (lines_in bytes))
    × (MayBegin m (take (k + 1) (lines_in bytes)) → ⊥)
IsFileFault m bytes n (Breaks l)
    = (k : ℕ) × (l ≡ k + 1) × (k < length (lines_in bytes)) × Begins m (take k (lines_in bytes))
    × (Begins m (take (k + 1) (lines_in bytes)) → ⊥) × MayBegin m (take (k + 1) (lines_in bytes))
IsFileFault m bytes n End
    = (n ≡ length (lines_in bytes) + 1) × Begins m (lines_in bytes)
    × ((f : File) → IsFile m f → bytes ≡ text_of (file_lines m f) → ⊥)
IsFileFault m bytes n Memory = Unit {0}

-- what a reader of the whole text finds
abbrev pub ReadsAll : System → Place → Result File Fault → Place → Type 0
ReadsAll m old (Ok file) new = Spells m file old.left
ReadsAll m old (Err fault) new = IsFileFault m old.left new.line fault
