-- Which bytes are a trace file of a model, and which one they are.
use Rattle.std.specs.Prelude.{◌≡◌, ◌<◌, ◌≤◌, ℕ, List, length, All}
use Rattle.kripke_model.specs.Path.{Lasso}
use Rattle.kripke_model.specs.Step.{IsState}
use Rattle.kripke_model.specs.System.{System}
use Rattle.text_lines.specs.WholeLines.{join_lines}
use Rattle.trace_files.specs.Trace.{Trace, members, trace_lines}

-- the greatest length of a trace file
abbrev pub most_bytes : ℕ
most_bytes = 67108864

-- the number of a specification, counted from 1
abbrev pub IsSpec : System → ℕ → Type 0
IsSpec m j = (1 ≤ j) × (j ≤ length m.specs)

-- states of the model, and a cycle. That they step to one another isn't asked here.
pub record IsLasso (m : System) (p : Lasso) : Type 0 where
  pub states : All (IsState m) (members p)
  pub loops : 0 < length p.cycle

-- a trace of the model: of one of its specifications
pub record IsTrace (m : System) (t : Trace) : Type 0 where
  pub spec : IsSpec m t.spec
  pub lasso : IsLasso m t.lasso

-- the bytes are the lines of the trace
pub record Spells (m : System) (t : Trace) (bytes : List ℕ) : Type 0 where
  pub is_trace : IsTrace m t
  pub text : bytes ≡ join_lines (trace_lines m t)
  pub short : length bytes ≤ most_bytes
