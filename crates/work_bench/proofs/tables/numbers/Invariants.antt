use Rattle.std.proofs.Common.{◌≡◌}
use Rattle.work_bench.specs.Ranges.{numbers}
use Rattle.work_bench.proofs.tables.numbers.Given as goal

abbrev pub invariant-loop-i : goal.invariant-loop-i
invariant-loop-i l = l.values.items ≡ numbers l.i
