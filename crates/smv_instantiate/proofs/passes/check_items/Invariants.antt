use Rattle.std.proofs.Common.{[]}
use Rattle.kripke_model.specs.Refusing.{First, Silent}
use Rattle.smv_instances.specs.Program.{Program}
use Rattle.smv_instantiate.specs.Passes.{AreTables, IsPassed}
use Rattle.smv_instantiate.specs.Refuses.{item}
use Rattle.smv_instantiate.proofs.PassSteps.{items_before}
use Rattle.smv_instantiate.proofs.passes.check_items.Given as goal

-- none of the items of the instances so far is refused
abbrev pub invariant-loop-i : goal.invariant-loop-i
invariant-loop-i l = (p : Program) → AreTables p l.instances l.paths l.firsts → IsPassed p (items_before p l.i) l.totals × Silent (First (item p) [] (items_before p l.i))
