-- How many formal parameters a path leads through, at most.
use Rattle.std.specs.Prelude.{ℕ, ◌+◌, ◌≤◌}
use Rattle.smv_instances.specs.Program.{Name, Path, Program}
use Rattle.smv_instances.specs.Instances.{Scope}
use Rattle.smv_names.specs.Denotes.{Target, Denotes, Finds}

abbrev mutual
  pub finds_height : {p : Program} {s : Scope} {x : Name} {t : Target} → Finds p s x t → ℕ
  finds_height (Finds.direct e) = 0
  finds_height (Finds.passed_on e d) = denotes_height d + 1

  pub denotes_height : {p : Program} {s : Scope} {q : Path} {t : Target} → Denotes p s q t → ℕ
  denotes_height (Denotes.here f) = finds_height f
  denotes_height (Denotes.constant none is) = 0
  denotes_height (Denotes.field d f) = denotes_height d + finds_height f
  denotes_height (Denotes.index d) = denotes_height d

-- by way of at most n formal parameters
pub record FindsWithin (p : Program) (n : ℕ) (s : Scope) (x : Name) (t : Target) : Type 0 where
  pub finds : Finds p s x t
  pub height : finds_height finds ≤ n

pub record DenotesWithin (p : Program) (n : ℕ) (s : Scope) (q : Path) (t : Target) : Type 0 where
  pub denotes : Denotes p s q t
  pub height : denotes_height denotes ≤ n
