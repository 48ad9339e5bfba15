use Rattle.std.proofs.Common.{◌≡◌, Some}
use Rattle.smv_instances.specs.Program.{Formal, Program}
use Rattle.smv_instances.specs.Instances.{Scope, module_of}
use Rattle.smv_instances.specs.Numbered.{scope_at}
use Rattle.smv_names.specs.Ready.{AreTargets}
use Rattle.smv_names.specs.Ordered.{AreOrdered}
use Rattle.smv_names.specs.Definitions.{IsCircularFormal}
use Rattle.smv_names.proofs.CheckLemmas.{FirstHave}
use Rattle.smv_names.proofs.definitions.has_circular.Given as goal

abbrev pub invariant-loop-place : goal.invariant-loop-place
invariant-loop-place l =
    (p : Program) (c : Scope) → AreTargets p l.instances l.targets → AreOrdered p l.order.order.items l.order.circular.items → scope_at p l.number ≡ Some c
    → FirstHave (λ (f : Formal). IsCircularFormal p c f → ⊥) (module_of c).formals l.place
