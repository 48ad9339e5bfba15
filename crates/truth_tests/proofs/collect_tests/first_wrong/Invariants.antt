use Rattle.std.proofs.Common.{◌≡◌}
use Rattle.diagram_sets.specs.Kept.{diagram_sets}
use Rattle.truth_tests.proofs.collect_tests.first_wrong.Given as goal

-- the sets are over the model
abbrev pub invariant-loop-number : goal.invariant-loop-number
invariant-loop-number l = (diagram_sets l.sets.parts l.sets.pins l.sets.fulls).over ≡ l.model
