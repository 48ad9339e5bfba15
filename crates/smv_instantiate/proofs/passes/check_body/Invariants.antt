use Rattle.std.proofs.Common.{◌≡◌, ◌++◌, List, Some, take}
use Rattle.kripke_model.specs.Refusing.{First, Silent}
use Rattle.smv_instances.specs.Instances.{Scope}
use Rattle.smv_instances.specs.Numbered.{scope_at}
use Rattle.smv_instances.specs.Program.{Program}
use Rattle.smv_instantiate.specs.Flattens.{Placed}
use Rattle.smv_instantiate.specs.Passes.{AreTables, IsPassed, placed}
use Rattle.smv_instantiate.specs.Refuses.{item}
use Rattle.smv_instantiate.proofs.passes.check_body.Given as goal

-- none of the items so far is refused
abbrev pub invariant-loop-item : goal.invariant-loop-item
invariant-loop-item l =
    (p : Program) (s : Scope) (before : List Placed) → AreTables p l.instances l.paths l.firsts → scope_at p l.i ≡ Some s → IsPassed p before l.totals
    → IsPassed p (before ++ placed s (take l.item-index l.items)) l.so_far × Silent (First (item p) before (placed s (take l.item-index l.items)))
