use Rattle.std.proofs.Common.{◌≡◌}
use Rattle.bdd_ops.specs.Engine.{capacity_of}
use Rattle.bdd_tests.proofs.ops_tests.parity.Given as goal

abbrev pub invariant-loop-level : goal.invariant-loop-level
invariant-loop-level l = capacity_of l.engine ≡ capacity_of l.initial.engine
