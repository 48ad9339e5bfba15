-- What is told where a reader stops.
use Rattle.std.specs.Prelude.{◌≡◌, ℕ, []}
use Rattle.text_lines.specs.Cursor.{Place}
use Rattle.text_lines.specs.WholeLines.{lines_in}
use Rattle.text_lines.specs.declared.faults.Fault.{Fault}
use Rattle.text_lines.specs.declared.faults.Fault.TheVariants.{Stops, Breaks, End, Memory as NoMemory}
use Rattle.trace_files.specs.declared.refusals.TraceRefusal.{TraceRefusal}
use Rattle.trace_files.specs.declared.refusals.TraceRefusal.TheVariants.{BadLine, Truncated, TooLong, Memory}

-- the next line is told where there is one, and else that it is missing
abbrev pub IsNextRefused : Place → TraceRefusal → Type 0
IsNextRefused place (BadLine l) = (l ≡ place.line) × (lines_in place.left ≡ [] → ⊥)
IsNextRefused place (Truncated l) = (l ≡ place.line) × (lines_in place.left ≡ [])
IsNextRefused place TooLong = ⊥
IsNextRefused place Memory = ⊥

-- a fault, of a reader that stands at line n
abbrev pub TellsFault : Fault → ℕ → TraceRefusal → Type 0
TellsFault (Stops l) n r = r ≡ BadLine l
TellsFault (Breaks l) n r = r ≡ BadLine l
TellsFault End n r = r ≡ Truncated n
TellsFault NoMemory n r = r ≡ Memory
