use Rattle.std.specs.Prelude.{All}
use Rattle.smv_instances.specs.Program.{Program}
use Rattle.smv_instantiate.specs.Flattens.{all_items}
use Rattle.smv_instantiate.specs.Parts.{AreParts}
use Rattle.smv_instantiate.specs.Passes.{AreTables, IsExpandable}
use Rattle.smv_instantiate.proofs.PassSteps.{items_before}
use Rattle.smv_instantiate.proofs.parts.parts_of.Given as goal

-- the items of the instances so far
abbrev pub invariant-loop-i : goal.invariant-loop-i
invariant-loop-i l = (p : Program) → AreTables p l.instances l.paths l.firsts → All (IsExpandable p) (all_items p) → AreParts p (items_before p l.i) l.parts
