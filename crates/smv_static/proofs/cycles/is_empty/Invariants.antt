use Rattle.std.proofs.Common.{◌≡◌, ℕ, ◌<◌, []}
use Rattle.smv_static.specs.Numbers.{row}
use Rattle.smv_static.proofs.cycles.is_empty.Given as goal

-- nothing so far
abbrev pub invariant-loop-row : goal.invariant-loop-row
invariant-loop-row l = (x : ℕ) → x < l.row-index → row l.rows x ≡ []
