-- What a sink in memory is.
use Rattle.std.specs.Prelude.{ℕ, List}

-- a sink in memory: its bytes, how many it has room for, which calls fail, how many calls there were, and the faults so far
pub record MemorySink : Type 0 where
  pub written : List ℕ
  pub room : ℕ
  pub fails : List ℕ
  pub calls : ℕ
  pub faults : ℕ
