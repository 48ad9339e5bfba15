-- What a sink over a writer is.
use Rattle.std.specs.Prelude.{ℕ, List, Option}

-- a sink over a writer: the bytes that the writer tells, and the faults so far
pub record ToldSink : Type 0 where
  pub written : Option (List ℕ)
  pub faults : ℕ
