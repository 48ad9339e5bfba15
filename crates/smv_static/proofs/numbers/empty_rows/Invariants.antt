use Rattle.std.proofs.Common.{◌≡◌, ℕ, [], length}
use Rattle.smv_static.specs.Numbers.{row}
use Rattle.smv_static.proofs.numbers.empty_rows.Given as goal

-- so many empty rows
abbrev pub invariant-loop : goal.invariant-loop
invariant-loop l = record {
  empty : (x : ℕ) → row l.rows.items x ≡ [];
  len : length l.rows.items ≡ l.counter;
}
