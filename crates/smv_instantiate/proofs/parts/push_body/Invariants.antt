use Rattle.std.proofs.Common.{◌≡◌, ◌++◌, List, Some, take}
use Rattle.std.specs.Prelude.{All}
use Rattle.smv_instances.specs.Instances.{Scope}
use Rattle.smv_instances.specs.Numbered.{scope_at}
use Rattle.smv_instances.specs.Program.{Program}
use Rattle.smv_instantiate.specs.Flattens.{Placed}
use Rattle.smv_instantiate.specs.Parts.{AreParts}
use Rattle.smv_instantiate.specs.Passes.{AreTables, IsExpandable, placed}
use Rattle.smv_instantiate.proofs.parts.push_body.Given as goal

-- the items so far
abbrev pub invariant-loop-item : goal.invariant-loop-item
invariant-loop-item l =
    (p : Program) (s : Scope) (before : List Placed) → AreTables p l.instances l.paths l.firsts → scope_at p l.i ≡ Some s → All (IsExpandable p) (placed s l.items) → AreParts p before l.initial.parts
    → AreParts p (before ++ placed s (take l.item-index l.items)) l.parts
