use Rattle.std.proofs.Common.{◌≡◌}
use Rattle.diagram_sets.specs.Kept.{diagram_sets}
use Rattle.region_sets.specs.Sets.{IsLive}
use Rattle.truth_tests.proofs.collect_tests.state_of.Given as goal

-- the sets are over the model, and the one that is narrowed is live
abbrev pub invariant-loop-formula : goal.invariant-loop-formula
invariant-loop-formula l = ((diagram_sets l.sets.parts l.sets.pins l.sets.fulls).over ≡ l.model)
    × IsLive (diagram_sets l.sets.parts l.sets.pins l.sets.fulls) l.set.slot
