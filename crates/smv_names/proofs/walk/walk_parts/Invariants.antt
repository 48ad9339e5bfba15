use Rattle.std.proofs.Common.{◌≡◌, ℕ, Some, take}
use Rattle.smv_instances.specs.Program.{Path, Program}
use Rattle.smv_instances.specs.Instances.{Scope}
use Rattle.smv_instances.specs.Numbered.{scope_at}
use Rattle.smv_names.specs.Written.{followed}
use Rattle.smv_names.specs.Passed.{Walking}
use Rattle.smv_names.specs.Ready.{AreStarted}
use Rattle.smv_names.proofs.walk.walk_parts.Given as goal

abbrev pub invariant-loop-part : goal.invariant-loop-part
invariant-loop-part l =
    (p : Program) (s : Scope) (line : ℕ) → AreStarted p l.instances l.targets → scope_at p l.i ≡ Some s → Walking p l.targets.states s (followed (Path.Here line l.name) (take l.part-index l.parts)) l.outcome
