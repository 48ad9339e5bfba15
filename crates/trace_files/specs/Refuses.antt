-- Why bytes are no trace file: at which line they cease to be the beginning of one.
use Rattle.std.specs.Prelude.{◌≡◌, ◌⊎◌, ◌<◌, ℕ, ◌+◌, List, [], ◌++◌, length}
use Rattle.kripke_model.specs.System.{System}
use Rattle.text_lines.specs.Ceasing.{HasLines, CeasesAt, IsCutOff}
use Rattle.trace_files.specs.Trace.{Trace, trace_lines}
use Rattle.trace_files.specs.Spells.{IsTrace, Spells, most_bytes}
use Rattle.trace_files.specs.declared.refusals.TraceRefusal.{TraceRefusal}
use Rattle.trace_files.specs.declared.refusals.TraceRefusal.TheVariants.{BadLine, Truncated, TooLong, Memory}

-- some trace has these lines in front
pub record Opens (m : System) (texts : List (List ℕ)) : Type 0 where
  pub trace : Trace
  pub is_trace : IsTrace m trace
  pub rest : List (List ℕ)
  pub lines : trace_lines m trace ≡ texts ++ rest

-- No line yet, or the first lines of some trace. (A model without specifications has no trace, and yet its first line is asked for.)
abbrev pub Begins : System → List (List ℕ) → Type 0
Begins m texts = (texts ≡ []) ⊎ Opens m texts

-- the text has lines that cease to begin a trace at line l, counted from 1
pub record IsBadLine (m : System) (bytes : List ℕ) (l : ℕ) : Type 0 where
  pub texts : List (List ℕ)
  pub rest : List ℕ
  pub place : ℕ
  pub has : HasLines most_bytes bytes texts rest
  pub stops : CeasesAt (Begins m) texts place
  pub line : l ≡ place + 1

-- The refusal applies to the bytes. Lines are counted from 1.
abbrev pub Refuses : System → List ℕ → TraceRefusal → Type 0
Refuses m bytes TooLong = most_bytes < length bytes
Refuses m bytes (Truncated l) = IsCutOff (Begins m) (λ t. Spells m t bytes) most_bytes bytes l
Refuses m bytes (BadLine l) = IsBadLine m bytes l
Refuses m bytes Memory = ⊥
