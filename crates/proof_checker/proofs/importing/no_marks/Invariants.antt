use Rattle.std.proofs.Common.{◌≡◌, length}
use Rattle.proof_checker.proofs.importing.no_marks.Given as goal

-- so many are there
abbrev pub invariant-loop : goal.invariant-loop
invariant-loop l = length l.marks.items ≡ l.counter
