use Rattle.std.proofs.Common.{take}
use Rattle.std.specs.Prelude.{option_map}
use Rattle.diagram_sets.specs.Kept.{diagram_sets}
use Rattle.smv_session.specs.Relation.{IsBuiltFor}
use Rattle.spec_verdicts.specs.Found.{AreFound}
use Rattle.smv_session.proofs.decision.try_each.Given as goal

-- what is found of the specifications so far, and the sets are ready for the next one
abbrev pub invariant-loop-place : goal.invariant-loop-place
invariant-loop-place l = record {
  found : AreFound l.model l.limit (option_map (λ name. name.now) l.proofs) (take l.place l.model.specs) l.found;
  ready : IsBuiltFor l.model l.limit (diagram_sets l.sets.parts l.sets.pins l.sets.fulls);
}
