use Rattle.std.proofs.Common.{◌≡◌, ◌++◌, ◌∷◌, [], List, Some, take}
use Rattle.smv_instances.specs.Program.{Path, Program}
use Rattle.smv_instances.specs.Instances.{Scope}
use Rattle.smv_instances.specs.Numbered.{scope_at}
use Rattle.smv_names.specs.Abbreviations.{Mention}
use Rattle.smv_names.specs.Written.{followed}
use Rattle.smv_names.specs.Passed.{Walking}
use Rattle.smv_names.specs.Ready.{AreTargets}
use Rattle.smv_names.specs.Uses.{AreNamed}
use Rattle.smv_names.proofs.uses.push_longer.Given as goal

abbrev pub invariant-loop-part : goal.invariant-loop-part
invariant-loop-part l = record {
  walks : (p : Program) (s : Scope) → AreTargets p l.instances l.targets → scope_at p l.i ≡ Some s → Walking p l.targets.states s (followed (Path.Here l.mention.path.now.line l.mention.path.now.first) (take l.part-index l.mention.path.now.parts.items)) l.front;
  named : (p : Program) (s : Scope) (ms : List Mention) → AreTargets p l.instances l.targets → scope_at p l.i ≡ Some s → AreNamed p s (ms ++ record { path = Path.Here l.mention.path.now.line l.mention.path.now.first; wanted = l.mention.wanted } ∷ []) l.fn.numbers.items
      → AreNamed p s (ms ++ record { path = followed (Path.Here l.mention.path.now.line l.mention.path.now.first) (take l.part-index l.mention.path.now.parts.items); wanted = l.mention.wanted } ∷ []) l.numbers.items;
}
